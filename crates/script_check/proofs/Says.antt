-- An answer that is the layout of a reading has its number and its place.
-- Assumes nothing.
use mathlib.Core.Path.{◌≡◌, refl, ap, ◌∙◌}
use Prim.Native.Nat.{ℕ}
use Rattle.std.specs.Prelude.{Result, Ok, Err}
use Rattle.layout.specs.Read.{Reading, read, bad_at}
use Rattle.rules.specs.Script.{Script}
use Rattle.script_places.specs.declared.BadAt.{BadAt}
use Rattle.script_check.specs.Views.{layout_of, check_says, layout_says}

layout-law : (m : Reading Script) → layout_says (layout_of m) ≡ check_says m
layout-law (read a xs p) = refl
layout-law (bad_at p) = refl

pub layout-tells : (m : Reading Script) {r : Result Unit BadAt} → r ≡ layout_of m → layout_says r ≡ check_says m
layout-tells m e = ap layout_says e ∙ layout-law m

abbrev bad_place : Result Unit BadAt → ℕ
bad_place (Ok u) = 0
bad_place (Err e) = e.0

pub same_place : {d e : BadAt} → ◌≡◌ {A = Result Unit BadAt} (Err d) (Err e) → d.0 ≡ e.0
same_place h = ap bad_place h
