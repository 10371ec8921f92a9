-- The bytes that the bits take are there, and what pads the last of them is cut out of the words.
use native.Mathlib.Omega.{arith}
use Prim.Native.Nat.{ℕ, ◌-◌, ◌*◌}
use mathlib.Core.List.{List}
use mathlib.Core.Path.{◌≡◌, sym, ap, ◌∙◌}
use mathlib.Core.Bool.{Bool}
use lib.ListN.{length, drop, length-drop}
use borrow.Author.Tests.{eq-eqb, ne_eqb}
use Rattle.layout.specs.Bits.{field_at}
use Rattle.layout.specs.Form.{bytes_for}
use Rattle.script_places.specs.Views.{ending_of}
use Rattle.script_places.proofs.Laws.{whole-short, whole_by}
use Rattle.script_places.proofs.end_in.Goals as goal

pub returns-then-from-size : goal.returns-then-from-size
returns-then-from-size c =
    let a = c.args in
    let l = ap length c.from.ensures in
    ap (λ (b : Bool). ending_of a.at b a.used) (sym (whole-short (drop a.at a.script.now) a.used (omega arith)))

pub overflow_add-result : goal.overflow_add-result
overflow_add-result c =
    let a = c.args in
    omega (arith, ap length c.from.ensures, length-drop a.at a.script.now)

-- what is cut out pads the record
fill : (xs : List ℕ) (used n : ℕ) {r : ℕ} → n ≡ bytes_for used → r ≡ field_at xs used (8 * n - used) → r ≡ field_at xs used (8 * bytes_for used - used)
fill xs used n z e = e ∙ ap (λ (k : ℕ). field_at xs used (8 * k - used)) z

pub returns-then-cut-eq0 : goal.returns-then-cut-eq0
returns-then-cut-eq0 c =
    let a = c.args in
    let l = ap length c.from.ensures in
    let xs = drop a.at a.script.now in
    let z : c.div_ceil-size.result ≡ bytes_for a.used = omega arith in
    rw z
    (ap (λ (b : Bool). ending_of a.at b a.used)
    (sym (whole_by xs a.used (omega arith) (fill xs a.used _ z (c.cut.ensures.cuts xs c.requires.1)) ∙ eq-eqb _ 0 c.if-cut-eq0.true)))

pub returns : goal.returns
returns c =
    let a = c.args in
    let l = ap length c.from.ensures in
    let xs = drop a.at a.script.now in
    let z : c.div_ceil-size.result ≡ bytes_for a.used = omega arith in
    ap (λ (b : Bool). ending_of a.at b a.used)
    (sym (whole_by xs a.used (omega arith) (fill xs a.used _ z (c.cut.ensures.cuts xs c.requires.1)) ∙ ne_eqb _ 0 c.if-cut-eq0.false))
