-- What a move within the rows leaves of the used ones.
-- Assumes nothing.
use Rattle.std.proofs.Common.{◌≡◌, ℕ, zero, suc, ◌+◌, ◌-◌, ◌≤◌, ◌<◌, List, [], ◌∷◌, ◌++◌, length, take, drop, set, get_or, append_assoc, refl, sym, ap, ap₂, ◌∙◌, arith, add-one}
use Rattle.std.proofs.lemmas.List.{take-take, take_more, drop-take, set_at, length-take-le, length-drop}
use Rattle.std.proofs.lemmas.List.Edits.{take-paste}
use native.Mathlib.Nat.{not-suc-le-zero, le_of_suc-le-suc}
use lib.Seq.{paste, take-set-lt}
use Rattle.lists.specs.Lists.{ins, del}

module _ {A : Type 0} (l : List A) (used at : ℕ) where
  -- what stands from a place on, in the used ones
  front : (i : ℕ) → i ≤ used → take i (take used l) ≡ take i l
  front i h = take-take i used l h

  rest : (i : ℕ) → i ≤ used → drop i (take used l) ≡ take (used - i) (drop i l)
  rest i h = let e : used ≡ i + (used - i) = omega arith in ap (λ n. drop i (take n l)) e ∙ drop-take i (used - i) l

  pub removed : at < used → used ≤ length l → take (used - 1) (paste l at (drop (at + 1) l) (used - (at + 1))) ≡ del at (take used l)
  unfolding del
  removed h k =
      let n = used - (at + 1) in
      let e : used - 1 ≡ at + n = omega arith in
      rw e (take-paste l at (drop (at + 1) l) n (omega arith) (omega (arith, length-drop (at + 1) l))
      ∙ sym (ap₂ ◌++◌ (front at (omega arith)) (ap (λ i. drop i (take used l)) (sym (add-one at)) ∙ rest (at + 1) (omega arith))))

  pub inserted
      : (k : A) → at ≤ used → used < length l
      → take (used + 1) (set (paste l (at + 1) (drop at l) (used - at)) at k) ≡ ins at k (take used l)
  unfolding ins
  inserted k h b =
      let n = used - at in
      let m = paste l (at + 1) (drop at l) n in
      let e : used + 1 ≡ at + 1 + n = omega arith in
      let moved : take (used + 1) m ≡ take at l ++ get_or l at k ∷ take n (drop at l) =
      rw e (take-paste l (at + 1) (drop at l) n (omega arith) (omega (arith, length-drop at l))
      ∙ ap (λ r. r ++ take n (drop at l)) (take_more l at k (omega arith)) ∙ append_assoc (take at l) _ _) in
      take-set-lt (used + 1) m at k (omega arith) ∙ ap (λ r. set r at k) moved
      ∙ set_at (take at l) (get_or l at k) (take n (drop at l)) k at (length-take-le at l (omega arith))
      ∙ sym (ap₂ (λ p q. p ++ k ∷ q) (front at h) (rest at h))

module _ {A : Type 0} where
  up_step : (i : ℕ) (l : List A) (d : A) → suc i < length l → del i (set l (suc i) (get_or l i d)) ≡ del (suc i) l
  unfolding del
  up_step i [] d h = absurd (not-suc-le-zero h)
  up_step zero (x ∷ []) d h = absurd (not-suc-le-zero (le_of_suc-le-suc h))
  up_step zero (x ∷ (y ∷ l)) d h = refl
  up_step (suc i) (x ∷ l) d h = ap (λ (r : List A). x ∷ r) (up_step i l d (le_of_suc-le-suc h))

  pub up_turn : (i : ℕ) (l : List A) (d : A) → 0 < i → i < length l → del (i - 1) (set l i (get_or l (i - 1) d)) ≡ del i l
  up_turn zero l d p h = absurd (not-suc-le-zero p)
  up_turn (suc i) l d p h = let z : suc i - 1 ≡ i = omega arith in rw z (up_step i l d h)
