-- A list of what stands at each place, and the same list with one place changed.
-- Assumes nothing.
use Prim.Native.Nat.{ℕ, zero, suc, ◌<◌}
use native.Mathlib.Omega.{arith}
use mathlib.Core.Path.{◌≡◌, refl, sym, ap, ap₂, ◌∙◌}
use mathlib.Core.List.{List, ◌∷◌}
use lib.ListN.{length, get_or, set}
use lib.Seq.{ext_get_or}
use Rattle.sys_all_rows.specs.Views.{each}

module _ {A : Type 0} where
  pub length-each : (n : ℕ) (f : ℕ → A) → length (each n f) ≡ n
  unfolding each
  length-each zero f = refl
  length-each (suc n) f = ap suc (length-each n (λ i. f (suc i)))

  pub get-each : (n : ℕ) (f : ℕ → A) (i : ℕ) (d : A) → i < n → get_or (each n f) i d ≡ f i
  unfolding each
  get-each zero f i d h = absurd (omega arith)
  get-each (suc n) f zero d h = refl
  get-each (suc n) f (suc i) d h = get-each n (λ j. f (suc j)) i d (omega arith)

  -- It is any list that has the same at each place.
  pub each-is : (d : A) (l : List A) (n : ℕ) (f : ℕ → A) → length l ≡ n → ((i : ℕ) → i < n → f i ≡ get_or l i d) → each n f ≡ l
  each-is d l n f e h =
      let z = length-each n f in
      ext_get_or d (each n f) l (z ∙ sym e) (λ i k. let w : i < n = omega arith in get-each n f i d w ∙ h i w)

  each_same : (n : ℕ) (f g : ℕ → A) → ((i : ℕ) → g i ≡ f i) → each n g ≡ each n f
  unfolding each
  each_same zero f g h = refl
  each_same (suc n) f g h = ap₂ (λ (x : A) (l : List A). x ∷ l) (h 0) (each_same n (λ i. f (suc i)) (λ i. g (suc i)) (λ i. h (suc i)))

  pub each_set : (n : ℕ) (f g : ℕ → A) (k : ℕ) (a : A) → k < n → g k ≡ a
      → ((i : ℕ) → (i ≡ k → ⊥) → g i ≡ f i) → each n g ≡ set (each n f) k a
  unfolding each
  each_set zero f g k a h e o = absurd (omega arith)
  each_set (suc n) f g zero a h e o =
      ap₂ (λ (x : A) (l : List A). x ∷ l) e (each_same n (λ i. f (suc i)) (λ i. g (suc i)) (λ i. o (suc i) (λ z. omega arith)))
  each_set (suc n) f g (suc k) a h e o =
      ap₂ (λ (x : A) (l : List A). x ∷ l) (o 0 (λ z. omega arith))
      (each_set n (λ i. f (suc i)) (λ i. g (suc i)) k a (omega arith) e (λ i z. o (suc i) (λ w. z (omega arith))))
