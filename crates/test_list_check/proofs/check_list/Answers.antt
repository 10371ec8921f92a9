-- What the search leaves open of `check_list`.
-- Assumes nothing.
use Rattle.std.proofs.Common.{Bool, sym, refl, ◌∙◌, length, ap, arith}
use borrow.Author.Tests.{eqb-true, eqb-false}
use Rattle.test_list_check.specs.declared.Tally.{Tally}
use Rattle.test_list_check.specs.List.{counted, walk, tallied}
use Rattle.test_list_check.proofs.Laws.{walk_end, walk-cut, counted-scripts, counted-differ, shorter, turn}
use Rattle.test_list_check.proofs.check_list.Goals as goal

pub loop-rest-init : goal.loop-rest-init
unfolding tallied
loop-rest-init c = (omega arith, omega arith, refl)

pub returns-in_default : goal.returns-in_default
returns-in_default c =
    let l = c.loop-rest in
    let n = eqb-false (length l.rest.now) 0 (sym c.loop-rest-test.ensures) in
    c.count.ensures ∙ sym (l.invariant.2 ∙ walk-cut l.rest.now l.t (omega (arith, n)) c.in_default.ensures)

pub loop-rest-preserved : goal.loop-rest-preserved
loop-rest-preserved c =
    let l = c.loop-rest in
    let p = c.in-Some.ensures in
    let n = shorter p in
    let e = c.count-t.ensures in
    let x = ap (λ (u : Tally). u.scripts) e ∙ counted-scripts l.t c.agree.result in
    let y = counted-differ l.t c.agree.result l.invariant.1 in
    let z = ap (λ (u : Tally). u.differ) e in (
      omega arith,
      omega arith,
      l.invariant.2
          ∙ turn l.t p
          ∙ ap (λ (b : Bool). walk 0 c.in-Some.behind.now (counted l.t b)) (sym c.agree.ensures)
          ∙ ap (λ (u : Tally). walk 0 c.in-Some.behind.now u) (sym e),
    )

pub returns : goal.returns
returns c =
    let l = c.loop-rest in
    let n = eqb-true (length l.rest.now) 0 (sym c.loop-rest-test.ensures) in
    sym (l.invariant.2 ∙ walk_end l.rest.now l.t (omega (arith, n)))
