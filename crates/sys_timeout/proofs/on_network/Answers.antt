-- With nothing pending it is ignored; else all of it is sent again.
use mathlib.Core.Path.{refl}
use native.Mathlib.Omega.{arith}
use Prim.Native.Nat.{◌<◌}
use lib.ListN.{get_or}
use Rattle.sys_moves.specs.Views.{rows_in}
use Rattle.sys_rows.proofs.Laws.{timers-small}
use Rattle.sys_timeout.proofs.Laws.{quiet, again-sent}
use borrow.Author.Rules.{rules}
use Rattle.sys_timeout.proofs.on_network.Goals as goal

pub returns-then-n-eq0 : goal.returns-then-n-eq0
returns-then-n-eq0 c =
    let a = c.args in
    λ count rs. record {
      rows = quiet a.me count rs a.net.now.kind a.net.now.used a.net.now.len (rows_in a.net.now.cells a.actor.now) c.requires.0 c.requires.1 c.if-n-eq0.true;
      kind = refl;
    }

pub overflow_cast-actor : goal.overflow_cast-actor
overflow_cast-actor c =
    let z = timers-small c.args.actor.now.live c.args.actor.now.pend c.requires.0.live in
    search rules

pub returns : goal.returns
returns c =
    let a = c.args in
    let x = c.resend_all-s in
    let some : 0 < get_or a.actor.now.live 1 0 = omega (arith, c.if-n-eq0.false) in
    λ count rs. record {
      rows = again-sent a.me count rs a.net.now.kind a.net.now.used a.net.now.len (rows_in a.net.now.cells a.actor.now)
          c.requires.0 c.requires.1 some x.result x.new.c x.ensures;
      kind = refl;
    }
