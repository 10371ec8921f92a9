-- What the library's methods answer of a slice, as the tests of our lists.
-- Assumes nothing.
use Prim.Native.Nat.{ℕ, zero, suc, ◌-◌}
use native.Mathlib.Omega.{arith}
use mathlib.Core.Path.{◌≡◌, ap, ◌∙◌}
use mathlib.Core.Bool.{Bool, true}
use mathlib.Core.List.{List, [], ◌∷◌}
use denote.Ref.{Bor}
use lib.ListN.{length, take, drop, length-drop}
use lib.Seq.{take_all}
use Rattle.std.specs.Prelude.{Option, Some, None, MatchOption, slice_get}
use Rattle.std.specs.Option.{option_copied}
use Rattle.lists.specs.Lists.{ends_in}

module _ {A : Type 0} where
  -- the places of an array from one on, as a slice of it has them
  pub tail-slice : (es : List A) (n u : ℕ) → length es ≡ n → take (n - u) (drop u es) ≡ drop u es
  tail-slice es n u h = take_all (n - u) (drop u es) (omega (arith, length-drop u es))

  -- `last` and `is_none_or`
  some-value : {x y : A} → ◌≡◌ {A = Option A} (Some x) (Some y) → x ≡ y
  some-value e = cc

  last-at : (p : A → Bool) (l : List A) (k : ℕ) (b : Bool) (o : Option (Bor A)) → length l ≡ suc k → option_copied o ≡ slice_get l k
      → MatchOption o (b ≡ true) (λ x. b ≡ p x.now) → b ≡ ends_in p l
  unfolding ends_in
  last-at p [] k b o e f h = absurd (omega arith)
  last-at p (x ∷ []) zero b None e f h = cc
  last-at p (x ∷ []) zero b (Some y) e f h = h ∙ ap p (some-value f)
  last-at p (x ∷ []) (suc k) b o e f h = absurd (omega arith)
  last-at p (x ∷ y ∷ l) zero b o e f h = absurd (omega arith)
  last-at p (x ∷ y ∷ l) (suc k) b o e f h = last-at p (y ∷ l) k b o (omega arith) f h

  pub last-ends : (p : A → Bool) (l : List A) (b : Bool) (o : Option (Bor A)) → option_copied o ≡ slice_get l (length l - 1)
      → MatchOption o (b ≡ true) (λ x. b ≡ p x.now) → b ≡ ends_in p l
  unfolding ends_in
  last-ends p [] b None f h = h
  last-ends p [] b (Some y) f h = cc
  last-ends p (x ∷ l) b o f h = last-at p (x ∷ l) (length (x ∷ l) - 1) b o (omega arith) f h
