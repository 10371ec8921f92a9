-- What order gives a search by halves.
-- Assumes nothing.
use Prim.Native.Nat.{ℕ, ◌+◌, ◌-◌, ◌/◌, ◌≤◌, ◌<◌}
use native.Mathlib.Omega.{arith}
use native.Mathlib.Decide.{dec_lt}
use mathlib.Core.Path.{◌≡◌, sym, ap, ◌∙◌}
use mathlib.Core.Bool.{Bool, true, false, not}
use mathlib.Core.List.{List, []}
use lib.ListN.{length, get_or}
use lib.Seq.{get_or-take}
use lib.Dec.{leb}
use borrow.Author.Tests.{leb-true, leb-false, le-leb, lt-ltb, ltb-true}
use Rattle.lists.specs.Lists.{chain, lead}
use Rattle.lists.proofs.Sorted.{sorted-at, chain-sorted}
use Rattle.lists.proofs.Places.{lead-le, lead-pass, lead_is}
use Rattle.std.specs.Prelude.{Option, Some, None, MatchOption, cond, drop}
use Rattle.std.specs.List.{position, take_while, prefix_len, position_or_len}
use Rattle.std.proofs.lemmas.List.{get_or-drop, length-drop}
use Rattle.std.proofs.lemmas.List.Folds.{length-prefix_len}
use Rattle.std.proofs.lemmas.List.Sums.{prefix_len-le-length, prefix_len_stops, fails_before_first}
use Rattle.std.proofs.lemmas.List.Quantifiers.{position-Some}
use Rattle.types.specs.Order.{is_equal}
use Rattle.net_cells.specs.Cells.{tags, cmp_cell, flow_of}
use Rattle.net_cells.proofs.Laws.{other-head}
use Rattle.net_slots.specs.Search.{before_flow, up_to_flow, Once}

-- ---- a search by halves
abbrev pub Passed : (List ℕ → Bool) → ℕ → List (List ℕ) → Type 0
Passed p n c = (k : ℕ) → k < n → p (get_or c k []) ≡ true

module _ (p : List ℕ → Bool) (c : List (List ℕ)) (once : Once p (length c) c) where
  pub passed_to : (mid : ℕ) → mid < length c → p (get_or c mid []) ≡ true → Passed p (mid + 1) c
  passed_to mid h e k l = go (dec_lt k mid)
    where
      go : Dec (k < mid) → p (get_or c k []) ≡ true
      go (yes b) = once.back k mid b h e
      go (no b) = let z : mid ≡ k = omega arith in ap (λ (n : ℕ). p (get_or c n [])) (sym z) ∙ e

  -- where the two ends meet
  pub met : (low high : ℕ) → low ≡ high → high ≤ length c → Passed p low c → (high < length c → p (get_or c high []) ≡ false) → low ≡ lead p c
  met low high e h f g = rw e (sym (lead_is p c high [] h (rw e at f) g))

-- where none is found, all fail
none_fails : (p : List ℕ → Bool) (l : List (List ℕ)) → None ≡ position p l → (i : ℕ) → i < length l → p (get_or l i []) ≡ false
none_fails p l e i h = go (dec_lt (position_or_len p l) (length l))
  where
    go : Dec (position_or_len p l < length l) → p (get_or l i []) ≡ false
    go (yes b) =
        let z : ◌≡◌ {A = Option ℕ} None (Some (position_or_len p l)) =
        e ∙ ap (λ t. cond t (Some (position_or_len p l)) None) (lt-ltb (position_or_len p l) (length l) b) in
        cc
    go (no b) = fails_before_first p l i [] (omega arith)

-- ---- order gives it
module _ (R : List ℕ → List ℕ → Bool) (trans : (x y z : List ℕ) → R x y ≡ true → R y z ≡ true → R x z ≡ true)
    (c : List (List ℕ)) (s : chain R c ≡ true) where
  pub ordered : (i j : ℕ) → i < j → j < length c → R (get_or c i []) (get_or c j []) ≡ true
  ordered i j h k = sorted-at (λ x y. R x y ≡ true) c [] (chain-sorted R trans c s) i j h k

  pub once : (p : List ℕ → Bool) → ((x y : List ℕ) → R x y ≡ true → p y ≡ true → p x ≡ true) → Once p (length c) c
  once p f = record { back = λ i j h k e. f (get_or c i []) (get_or c j []) (ordered i j h k) e }

-- ---- flows
abbrev pub flows : List ℕ → List ℕ → Bool
flows x y = leb (flow_of x) (flow_of y)

pub flows-trans : (x y z : List ℕ) → flows x y ≡ true → flows y z ≡ true → flows x z ≡ true
flows-trans x y z e f = le-leb (flow_of x) (flow_of z) (omega (arith, leb-true (flow_of x) (flow_of y) e, leb-true (flow_of y) (flow_of z) f))

pub flows-before : (k x y : List ℕ) → flows x y ≡ true → before_flow k y ≡ true → before_flow k x ≡ true
flows-before k x y e f = lt-ltb (flow_of x) (flow_of k) (omega (arith, leb-true (flow_of x) (flow_of y) e, ltb-true (flow_of y) (flow_of k) f))

-- another flow, another cell
pub other-flow : (x k : List ℕ) → (flow_of x ≡ flow_of k → ⊥) → not (is_equal (cmp_cell x k)) ≡ true
other-flow x k h = ap not (sym (other-head x k (λ e. h (ap (λ (n : ℕ). n / tags) e))))

abbrev pub differs : List ℕ → List ℕ → Bool
differs k x = not (is_equal (cmp_cell x k))

module _ (c : List (List ℕ)) (k : List ℕ) where
  -- before its flow nothing is equal
  from-flow : (r : ℕ) → r ≡ lead (before_flow k) c → (r ≤ length c) × Passed (differs k) r c
  from-flow r e = (
    omega (arith, lead-le (before_flow k) c),
    λ j b. other-flow (get_or c j []) k (λ q.
        let z = ltb-true (flow_of (get_or c j [])) (flow_of k) (lead-pass (before_flow k) c [] j (omega arith)) in
        omega arith),
  )

  module _ (s : chain flows c ≡ true) where
    -- nor after it
    past-flow : (i : ℕ) → i < length c → Passed (differs k) i c → flow_of k < flow_of (get_or c i []) → Passed (differs k) (length c) c
    past-flow i h p l j b = go (dec_lt j i) (dec_lt i j)
      where
        go : Dec (j < i) → Dec (i < j) → differs k (get_or c j []) ≡ true
        go (yes x) y = p j x
        go (no x) (yes y) =
            other-flow (get_or c j []) k
            (λ q. omega (arith, leb-true (flow_of (get_or c i [])) (flow_of (get_or c j [])) (ordered flows flows-trans c s i j y b)))
        go (no x) (no y) = let z : j ≡ i = omega arith in rw z (other-flow (get_or c i []) k (λ q. omega arith))

    -- the walk from the start of its flow to the end
    module _ (start : ℕ) (from : start ≡ lead (before_flow k) c) where
      abbrev same : List ℕ → Bool
      same x = is_equal (cmp_cell x k)

      abbrev rest : List (List ℕ)
      rest = drop start c

      abbrev flow : List (List ℕ)
      flow = take_while (up_to_flow k) rest

      size : length flow ≡ prefix_len (up_to_flow k) rest
      size = length-prefix_len (up_to_flow k) rest

      few : start + length flow ≤ length c
      few = omega (arith, size, length-drop start c, prefix_len-le-length (up_to_flow k) rest, (from-flow start from).0)

      at-flow : (i : ℕ) → i < length flow → get_or flow i [] ≡ get_or c (start + i) []
      at-flow i h = get_or-take (prefix_len (up_to_flow k) rest) rest i [] (omega (arith, size)) ∙ get_or-drop start c i []

      -- those of the flow that were looked at differ
      walked : (n : ℕ) → n ≤ length flow → ((i : ℕ) → i < n → same (get_or flow i []) ≡ false) → Passed (differs k) (start + n) c
      walked n h f j l = go (dec_lt j start)
        where
          go : Dec (j < start) → differs k (get_or c j []) ≡ true
          go (yes x) = (from-flow start from).1 j x
          go (no x) =
              let i = j - start in
              let e : start + i ≡ j = omega arith in
              ap not (ap (λ m. same (get_or c m [])) (sym e) ∙ ap same (sym (at-flow i (omega arith))) ∙ f i (omega arith))

      over : Passed (differs k) (start + length flow) c → Passed (differs k) (length c) c
      over f = go (dec_lt (start + length flow) (length c))
        where
          go : Dec (start + length flow < length c) → Passed (differs k) (length c) c
          go (yes h) =
              past-flow (start + length flow) h f
              (leb-false (flow_of (get_or c (start + length flow) [])) (flow_of k)
              (ap (up_to_flow k) (sym (get_or-drop start c (length flow) [])) ∙ ap (λ m. up_to_flow k (get_or rest m [])) size
              ∙ prefix_len_stops (up_to_flow k) rest [] (omega (arith, size, length-drop start c))))
          go (no h) = λ j l. f j (omega (arith, few))

      pub first-walked
          : (r : Option ℕ) → r ≡ position same flow → (n : ℕ) → MatchOption r (n ≡ length c) (λ i. n ≡ start + i)
          → n ≡ lead (differs k) c
      first-walked (Some i) e n m =
          let z = position-Some same flow i [] (sym e) in
          rw m (sym (lead_is (differs k) c (start + i) [] (omega (arith, few)) (walked i (omega arith) z.2)
          (λ h. ap not (ap same (sym (at-flow i z.0)) ∙ z.1))))
      first-walked None e n m =
          rw m (sym (lead_is (differs k) c (length c) [] (omega arith)
          (over (walked (length flow) (omega arith) (none_fails same flow e))) (λ h. absurd (omega arith))))
