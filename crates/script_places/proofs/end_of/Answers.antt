-- The bytes that the bits take are there, so the place after them is at most the script's length: the sum cannot wrap.
use native.Mathlib.Omega.{arith}
use Prim.Native.Nat.{ℕ}
use mathlib.Core.List.{List}
use mathlib.Core.Path.{◌≡◌, sym, ap, ◌∙◌}
use mathlib.Core.Bool.{true}
use lib.ListN.{drop, length-drop}
use Rattle.layout.specs.Form.{whole_of}
use Rattle.layout.proofs.Laws.{whole-fits}
use Rattle.script_places.proofs.end_of.Goals as goal

pub overflow_add-result : goal.overflow_add-result
overflow_add-result c =
    let a = c.args in
    let w : whole_of (drop a.at a.script.now) a.used ≡ true =
    ap (λ (xs : List ℕ). whole_of xs a.used) (sym c.from.ensures) ∙ sym c.whole.ensures ∙ c.if-whole.true in
    omega (arith, whole-fits (drop a.at a.script.now) a.used w, length-drop a.at a.script.now)
