-- The tests of lists beside the library's, which say what its iterators answer.
-- Assumes nothing.
use Rattle.std.proofs.Common.{◌≡◌, ℕ, suc, ◌+◌, ◌<◌, Bool, true, false, ◌&&◌, List, [], ◌∷◌, length, get_or, refl, sym, ap, ◌∙◌, arith, add-one}
use Rattle.std.specs.List.{list_all, IsAllAdjacentAnswer}
use Rattle.lists.specs.Lists.{all, chain}
use Rattle.lists.proofs.Sorted.{chain-yes, chain-no}

module _ {A : Type 0} where
  pub all-is : (p : A → Bool) (l : List A) → all p l ≡ list_all p l
  unfolding all
  all-is p [] = refl
  all-is p (x ∷ l) = ap (λ (b : Bool). p x && b) (all-is p l)

  -- what `is_sorted_by` answers
  pub chain-is : (r : A → A → Bool) (l : List A) (b : Bool) → IsAllAdjacentAnswer (λ x y a. a ≡ r x y) l b → b ≡ chain r l
  unfolding chain
  chain-is r [] true h = refl
  chain-is r [] false h = absurd (omega (arith, h.1))
  chain-is r (x ∷ l) true h = sym (chain-yes r (x ∷ l) x (λ k s. sym (rw add-one at (h k x (omega arith)))))
  chain-is r (x ∷ l) false h = sym (chain-no r (x ∷ l) x h.0 (omega (arith, h.1)) (sym (rw add-one at (h.2 x))))
