-- An answer that is the image of a reading has its number and its values.
-- Assumes nothing.
use Prim.Native.Nat.{ℕ}
use mathlib.Core.Path.{◌≡◌, refl, ap, ◌∙◌}
use mathlib.Core.List.{[], ◌∷◌}
use Rattle.std.specs.Prelude.{Option, None, Result, Err, IsErrAnd}
use Rattle.std.specs.Option.{ok_or}
use Rattle.std.proofs.lemmas.Result.{err_from_is_err_and}
use Rattle.layout.specs.Read.{Reading, read, bad_at}
use Rattle.script_places.specs.declared.BadAt.{BadAt}
use Rattle.script_places.specs.Views.{result_of}
use Rattle.script_places.specs.Says.{said, reading_says, result_says}

-- `k` is how the answer holds a value, and `back` gives the value again.
module _ {A B : Type 0} (k : A → B) (back : B → A) (law : (a : A) → back (k a) ≡ a) where
  says-law : (m : Reading A) → result_says back (result_of k m) ≡ reading_says m
  says-law (read a xs p) = ap (λ (b : A). said 0 (b ∷ []) (p ∷ [])) (law a)
  says-law (bad_at p) = refl

  pub tells : (m : Reading A) {r : Result (B × ℕ) BadAt} → r ≡ result_of k m → result_says back r ≡ reading_says m
  tells m e = ap (result_says back) e ∙ says-law m

-- What a `?` hands on is the error that it met.
pub failed : {T E : Type 0} {e : E} (r : Result T E) → IsErrAnd r (λ (d : E). d ≡ e) → r ≡ Err e
failed r h = let p = err_from_is_err_and r h in p.1 ∙ ap Err p.2

-- A part that is not there is refused by the error that was given for it.
pub refused : {T E : Type 0} {o : Option T} {d e : E} → Err d ≡ ok_or o e → o ≡ None → d ≡ e
refused {T} {E} {o} {d} {e} p n =
    let h : ◌≡◌ {A = Result T E} (Err d) (Err e) = p ∙ ap (λ (x : Option T). ok_or x e) n in cc
