-- A number noted for a source: within the counted ones, or past them.
-- Assumes nothing.
use Prim.Native.Nat.{ℕ, zero, suc, ◌+◌, ◌-◌, ◌≤◌, ◌<◌}
use native.Mathlib.Omega.{arith}
use native.Mathlib.Numerals.{add-one}
use mathlib.Core.Path.{◌≡◌, refl, sym, ap, ◌∙◌}
use mathlib.Core.List.{List, [], ◌∷◌, map}
use lib.ListN.{length, take, drop, get_or, set, length-set, length-drop}
use lib.Seq.{get_or-set_same, get_or-set_other, set-get_or, get_or-drop, drop-set-lt, drop-set-add}
use lib.Dec.{leb}
use borrow.Author.Tests.{le-leb, lt-leb}
use Rattle.lists.specs.Lists.{choose, write}
use Rattle.types.specs.Capacities.{most_actors}
use Rattle.types.specs.declared.Number.{Number}
use Rattle.rules.specs.Link.{untaken, note_taken, with_taken}
use Rattle.link_rows.specs.Rows.{row_size, pending_in, number_in, storage_in, durable_in}
use Rattle.link_rows.proofs.Heads.{head-same}
use Rattle.sys_rows.specs.Rows.{TailLaid, Noticed}
use Rattle.sys_rows.proofs.Laws.{tail_at}

-- Past the counted ones all are 0.
within : (l : List ℕ) (k s v : ℕ) → s < k → s < length l
    → map number_in (take k (set l s v)) ≡ write untaken s (record { 0 = v }) (map number_in (take k l))
unfolding write
within [] k s v h g = absurd (omega arith)
within (x ∷ l) zero s v h g = absurd (omega arith)
within (x ∷ l) (suc k) zero v h g = refl
within (x ∷ l) (suc k) (suc s) v h g = ap (λ (r : List Number). record { 0 = x } ∷ r) (within l k s v (omega arith) (omega arith))

beyond : (l : List ℕ) (k s v : ℕ) → k ≤ s → s < length l → ((i : ℕ) → k ≤ i → i < s → get_or l i 0 ≡ 0)
    → map number_in (take (suc s) (set l s v)) ≡ write untaken s (record { 0 = v }) (map number_in (take k l))
unfolding write
beyond [] k s v h g z = absurd (omega arith)
beyond (x ∷ l) zero zero v h g z = refl
beyond (x ∷ l) zero (suc s) v h g z =
    let e : x ≡ 0 = z 0 (omega arith) (omega arith) in
    let f = beyond l zero s v (omega arith) (omega arith) (λ i a b. z (suc i) (omega arith) (omega arith)) in
    λ j. record { 0 = e j } ∷ f j
beyond (x ∷ l) (suc k) zero v h g z = absurd (omega arith)
beyond (x ∷ l) (suc k) (suc s) v h g z =
    ap (λ (r : List Number). record { 0 = x } ∷ r) (beyond l k s v (omega arith) (omega arith) (λ i a b. z (suc i) (omega arith) (omega arith)))

eight : (i : ℕ) → 8 + i ≡ 4 + (4 + i)
eight i = omega arith

module _ (w : List ℕ) (s v : ℕ) (room : length w ≡ row_size) (hs : s < most_actors) (laid : TailLaid (drop 4 w)) where
  abbrev u : List ℕ
  u = set w (8 + s) v

  pub count_kept : get_or u 4 0 ≡ get_or w 4 0
  count_kept = get_or-set_other w (8 + s) 4 v 0 (λ z. omega arith)

  -- The number, and n sources that are counted.
  abbrev t : ℕ → List ℕ
  t n = set u 4 n

  apart : (n i : ℕ) → (i ≡ 4 → ⊥) → (i ≡ 8 + s → ⊥) → get_or (t n) i 0 ≡ get_or w i 0
  apart n i a b = get_or-set_other u 4 i n 0 a ∙ get_or-set_other w (8 + s) i v 0 b

  counted : (n : ℕ) → get_or (t n) 4 0 ≡ n
  counted n = let z = length-set w (8 + s) v in get_or-set_same u 4 n 0 (omega arith)

  module _ (n : ℕ) (hn : n ≤ most_actors) (hw : get_or w 4 0 ≤ n) (hi : s < n) where
    tail : TailLaid (drop 4 (t n))
    tail = record {
      sources = let z = tail_at (t n) 0 ∙ counted n in omega arith;
      timers = let z = tail_at (t n) 2 ∙ apart n 6 (λ z. omega arith) (λ z. omega arith) ∙ sym (tail_at w 2) in let y = laid.timers in omega arith;
      state = let z = tail_at (t n) 3 ∙ apart n 7 (λ z. omega arith) (λ z. omega arith) ∙ sym (tail_at w 3) in let y = laid.state in omega arith;
      rest = λ i a b.
          let z = tail_at (t n) 0 ∙ counted n in
          let y = tail_at w 0 in
          tail_at (t n) (4 + i) ∙ apart n (4 + (4 + i)) (λ q. omega arith) (λ q. omega arith) ∙ sym (tail_at w (4 + i)) ∙ laid.rest i (omega arith) b;
    }

    noticed : n ≡ choose (leb (get_or w 4 0) s) (s + 1) (get_or w 4 0)
        → map number_in (take n (set (drop 8 w) s v)) ≡ write untaken s (record { 0 = v }) (map number_in (take (get_or w 4 0) (drop 8 w)))
        → Noticed s v w (t n)
    unfolding durable_in with_taken note_taken
    noticed c e =
        let e0 = apart n 0 (λ z. omega arith) (λ z. omega arith) in
        let e1 = apart n 1 (λ z. omega arith) (λ z. omega arith) in
        let e2 = apart n 2 (λ z. omega arith) (λ z. omega arith) in
        let e3 = apart n 3 (λ z. omega arith) (λ z. omega arith) in
        let e4 = counted n in
        let e5 = drop-set-lt 8 u 4 n (omega arith) ∙ drop-set-add 8 w s v in
        let e6 = (λ j. map number_in (take (e4 j) (e5 j))) ∙ e in
        record {
          row = ap t c;
          durable = λ p j. record { next = record { 0 = e0 j }; pending = map pending_in (take (e1 j) p); taken = e6 j; inner = storage_in (e2 j) (e3 j) };
          laid = λ p fit. record {
            room = length-set u 4 n ∙ length-set w (8 + s) v ∙ room;
            places = fit.places;
            pending = let z = fit.pending in omega arith;
            head = head-same w (t n) p e1 e2 e3 fit.head;
            tail = tail;
          };
        }

  long : length (drop 8 w) ≡ row_size - 8
  long = let z = length-drop 8 w in omega arith

  -- The source is counted already.
  pub noticed-within : s < get_or w 4 0 → Noticed s v w u
  unfolding choose
  noticed-within h =
      let l = long in
      let few : get_or w 4 0 ≤ most_actors = let z = tail_at w 0 in let y = laid.sources in omega arith in
      let same : t (get_or w 4 0) ≡ u = ap t (sym count_kept) ∙ set-get_or u 4 0 in
      rw (sym same) (noticed (get_or w 4 0) few (omega arith) h (rw (lt-leb (get_or w 4 0) s h)) (within (drop 8 w) (get_or w 4 0) s v h (omega arith)))

  -- It is counted from now on.
  pub noticed-beyond : get_or w 4 0 ≤ s → Noticed s v w (t (s + 1))
  unfolding choose
  noticed-beyond h =
      let l = long in
      let c = tail_at w 0 in
      let free : (i : ℕ) → get_or w 4 0 ≤ i → i < s → get_or (drop 8 w) i 0 ≡ 0 = λ i a b.
      get_or-drop 8 w i 0 ∙ ap (λ (k : ℕ). get_or w k 0) (eight i) ∙ sym (tail_at w (4 + i)) ∙ laid.rest i (omega arith) (omega arith) in
      noticed (s + 1) (omega arith) (omega arith) (omega arith) (rw (le-leb (get_or w 4 0) s h))
      (ap (λ (k : ℕ). map number_in (take k (set (drop 8 w) s v))) (add-one s) ∙ beyond (drop 8 w) (get_or w 4 0) s v h (omega arith) free)

-- Up to place 7 all words but the count of sources stay.
pub noticed-word : (s v : ℕ) (w w' : List ℕ) → Noticed s v w w' → (i : ℕ) → i < 8 → (i ≡ 4 → ⊥) → get_or w' i 0 ≡ get_or w i 0
noticed-word s v w w' note i h n =
    ap (λ (l : List ℕ). get_or l i 0) note.row ∙ get_or-set_other (set w (8 + s) v) 4 i _ 0 n ∙ get_or-set_other w (8 + s) i v 0 (λ z. omega arith)
