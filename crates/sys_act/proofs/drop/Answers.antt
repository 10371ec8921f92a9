-- Absent from the actors, the source is refused; else it is the network's Drop.
use native.Mathlib.Omega.{arith}
use mathlib.Core.Path.{refl, sym, ◌∙◌}
use borrow.Author.Tests.{ltb-true, ltb-false}
use Rattle.sys_act.proofs.drop.Goals as goal

pub returns-then-not-known : goal.returns-then-not-known
returns-then-not-known c =
    let a = c.args in
    let z = ltb-false a.e.src.0 a.count (sym c.known.ensures ∙ c.if-not-known.true) in
    (record { unknown = λ h. (refl, refl); drops = λ h. absurd (omega arith) }, refl)

pub returns : goal.returns
returns c =
    let a = c.args in
    let z = ltb-true a.e.src.0 a.count (sym c.known.ensures ∙ c.if-not-known.false) in
    (record { unknown = λ h. absurd (omega arith); drops = λ h. c.on_drop-s.ensures }, refl)
