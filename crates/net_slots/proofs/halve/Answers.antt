-- What the search leaves open of `halve`: what the closure says of the middle cell, and where the two ends meet.
-- Assumes nothing.
use Rattle.std.proofs.Common.{ℕ, ◌+◌, ◌-◌, ◌/◌, sym, true, false, arith}
use Rattle.std.proofs.lemmas.Fn.{says_at}
use Rattle.net_slots.proofs.Laws.{passed_to, met}
use Rattle.net_slots.proofs.halve.Goals as goal

pub loop-low-preserved-then-passes : goal.loop-low-preserved-then-passes
loop-low-preserved-then-passes g c =
    let l = c.loop-low in
    let cs = c.args.cells.now in
    let mid : ℕ = l.low + (l.high - l.low) / 2 in (
      omega arith,
      l.invariant.1,
      λ p key once. (
        passed_to p cs once mid (omega arith) (sym (key _ true (says_at g.F.Fn c.passes.ensures c.if-passes.true))),
        (l.invariant.2 p key once).1,
      ),
    )

pub loop-low-preserved : goal.loop-low-preserved
loop-low-preserved g c =
    let l = c.loop-low in (
      omega arith,
      omega arith,
      λ p key once.
          ((l.invariant.2 p key once).0, λ h. sym (key _ false (says_at g.F.Fn c.passes.ensures c.if-passes.false))),
    )

pub returns-clause-first : goal.returns-clause-first
returns-clause-first g c =
    let l = c.loop-low in
    λ p key once.
    let z = l.invariant.2 p key once in
    met p c.args.cells.now once l.low l.high (omega arith) l.invariant.1 z.0 z.1
