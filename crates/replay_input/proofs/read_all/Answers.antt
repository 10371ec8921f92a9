-- What follows the read says what is so behind it.
-- Assumes nothing.
use Rattle.std.proofs.Common.{sym, arith}
use Rattle.std.proofs.lemmas.List.{length-take-le}
use Rattle.replay_input.proofs.Laws.{follows}
use Rattle.replay_input.proofs.read_all.Goals as goal

pub loop-place-smaller : goal.loop-place-smaller
loop-place-smaller g c =
    let r = c.read_on-got.ensures in
    let f = follows _ _ _ _ _ _ _ _ _ c.in_ok-place.ensures c.in-Continue.is r.kept r.within r.bytes c.loop-place.invariant.2 in
    omega (arith, f.0, f.1)

pub loop-place-preserved : goal.loop-place-preserved
loop-place-preserved g c =
    let r = c.read_on-got.ensures in
    let f = follows _ _ _ _ _ _ _ _ _ c.in_ok-place.ensures c.in-Continue.is r.kept r.within r.bytes c.loop-place.invariant.2 in
    (omega arith, f.1, f.2)

pub returns-in-Break : goal.returns-in-Break
returns-in-Break g c =
    let r = c.read_on-got.ensures in
    let f = follows _ _ _ _ _ _ _ _ _ c.in_ok-place.ensures c.in-Break.is r.kept r.within r.bytes c.loop-place.invariant.2 in
    record { within = (f.0, sym (length-take-le _ _ f.0)); bytes = f.1; end = f.2; err = tt }
