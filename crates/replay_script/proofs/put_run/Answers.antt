-- Where the buffer has room for any output of a script of this length, it is written at once; else it is measured first.
use native.Mathlib.Omega.{arith}
use mathlib.Core.Bool.{false≢true}
use Rattle.rules.specs.Script.{versions}
use Rattle.script_check.proofs.Whole.{parts-of}
use Rattle.replay_script.proofs.Laws.{good-longest, told-all, told-after, told_none}
use Rattle.replay_script.proofs.put_run.Goals as goal

pub room_for-requires : goal.room_for-requires
room_for-requires c = (parts-of versions _ c.requires).short

pub tell_run-requires : goal.tell_run-requires
tell_run-requires c =
    let h = good-longest c.args.script.now (parts-of versions _ c.requires) in
    (c.requires, λ w. omega (arith, h, c.if-room_for-out.true, c.room_for.ensures))

pub returns-then-room_for-out : goal.returns-then-room_for-out
returns-then-room_for-out c =
    let h = good-longest c.args.script.now (parts-of versions _ c.requires) in
    told-all c.tell_run.ensures
    (omega (arith, h, c.if-room_for-out.true, c.room_for.ensures))

pub tell_run-size-requires : goal.tell_run-size-requires
tell_run-size-requires c = (c.requires, λ w. absurd (false≢true w))

pub returns-then-size-out : goal.returns-then-size-out
returns-then-size-out c =
    told-after c.tell_run-size.ensures c.if-size-out.true
    c.tell_run-then-size-out.ensures

pub returns : goal.returns
returns c =
    told_none c.tell_run-size.ensures c.if-size-out.false
