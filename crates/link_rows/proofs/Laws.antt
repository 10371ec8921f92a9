-- Changes of rows are changes of the durable part.
-- Assumes nothing.
use Prim.Native.Nat.{ℕ, suc, ◌+◌, ◌-◌, ◌≤◌, ◌<◌}
use native.Mathlib.Omega.{arith}
use native.Mathlib.Numerals.{add-one}
use mathlib.Core.Path.{◌≡◌, refl, sym, ap, ◌∙◌}
use mathlib.Core.List.{List, [], ◌∷◌, ◌++◌, map}
use lib.ListN.{length, get_or, set, take, drop, length-set, length-map}
use lib.Dec.{eqb, ltb}
use borrow.Author.Tests.{ltb-true, ltb-false}
use mathlib.Core.Bool.{Bool, true, false, not, cond}
use Rattle.std.specs.Prelude.{Option, Some, None, MatchOption}
use Rattle.std.specs.List.{position, position_or_len}
use Rattle.lists.specs.Lists.{lead, del}
use Rattle.lists.proofs.Places.{lead-map, map_snoc, map-del, cut-found, cut-missing}
use lib.Seq.{get_or-set_same, get_or-set_other, drop-set-lt, take-suc-set, length-take-le}
use Rattle.rules.specs.Link.{numbered, posting, with_inner, without, acked}
use Rattle.link_rows.specs.Rows.{row_size, pending_in, number_in, storage_in, durable_in, other, Turned}
use Rattle.link_rows.proofs.Heads.{head_more, head-less}

-- Two words that are set, one after the other, and the words beside them.
module _ (w : List ℕ) (i j a b : ℕ) (room : length w ≡ row_size) (hi : i < 8) (hj : j < 8) (ne : i ≡ j → ⊥) where
  abbrev w' : List ℕ
  w' = set (set w i a) j b

  set_first : get_or w' i 0 ≡ a
  set_first = get_or-set_other (set w i a) j i b 0 ne ∙ get_or-set_same w i a 0 (omega arith)

  set-second : get_or w' j 0 ≡ b
  set-second = get_or-set_same (set w i a) j b 0 (omega (arith, length-set w i a))

  beside : (k : ℕ) → (k ≡ i → ⊥) → (k ≡ j → ⊥) → get_or w' k 0 ≡ get_or w k 0
  beside k p q = get_or-set_other (set w i a) j k b 0 q ∙ get_or-set_other w i k a 0 p

  after : drop 8 w' ≡ drop 8 w
  after = drop-set-lt 8 (set w i a) j b hj ∙ drop-set-lt 8 w i a hi

posted : (w : List ℕ) (p : List (List ℕ)) (dst payload : ℕ) → length w ≡ row_size → get_or w 1 0 < length p
    → durable_in (set (set w 0 (get_or w 0 0 + 1)) 1 (get_or w 1 0 + 1)) (set p (get_or w 1 0) (get_or w 0 0 ∷ dst ∷ payload ∷ 0 ∷ []))
    ≡ posting (record { 0 = dst }) (record { 0 = payload }) (durable_in w p)
unfolding durable_in posting numbered pending_in
posted w p dst payload room h =
    let n = get_or w 1 0 in
    let v = get_or w 0 0 in
    let q = v ∷ dst ∷ payload ∷ 0 ∷ [] in
    let no : ◌≡◌ {A = ℕ} 0 1 → ⊥ = λ e. omega arith in
    let i : 0 < 8 = omega arith in
    let j : 1 < 8 = omega arith in
    let e0 : get_or (set (set w 0 (v + 1)) 1 (n + 1)) 0 0 ≡ suc v = set_first w 0 1 (v + 1) (n + 1) room i j no ∙ add-one v in
    let e1 : get_or (set (set w 0 (v + 1)) 1 (n + 1)) 1 0 ≡ suc n = set-second w 0 1 (v + 1) (n + 1) room i j no ∙ add-one n in
    let ps : map pending_in (take (get_or (set (set w 0 (v + 1)) 1 (n + 1)) 1 0) (set p n q)) ≡ map pending_in (take n p) ++ pending_in q ∷ [] =
    ap (λ (k : ℕ). map pending_in (take k (set p n q))) e1 ∙ ap (map pending_in) (take-suc-set p n q h) ∙ map_snoc pending_in (take n p) q in
    let e2 = beside w 0 1 (v + 1) (n + 1) room i j no 2 (λ e. omega arith) (λ e. omega arith) in
    let e3 = beside w 0 1 (v + 1) (n + 1) room i j no 3 (λ e. omega arith) (λ e. omega arith) in
    let e4 = beside w 0 1 (v + 1) (n + 1) room i j no 4 (λ e. omega arith) (λ e. omega arith) in
    let e5 = after w 0 1 (v + 1) (n + 1) room i j no in
    λ k. record { next = record { 0 = e0 k }; pending = ps k; taken = map number_in (take (e4 k) (e5 k)); inner = storage_in (e2 k) (e3 k) }

low-set : (w : List ℕ) (i j a b : ℕ) → i < 4 → j < 4 → drop 4 (set (set w i a) j b) ≡ drop 4 w
low-set w i j a b h k = drop-set-lt 4 (set w i a) j b k ∙ drop-set-lt 4 w i a h

pub count_set : (w : List ℕ) (a : ℕ) → length w ≡ row_size → get_or (set w 1 a) 1 0 ≡ a
count_set w a room = get_or-set_same w 1 a 0 (omega arith)

pub posted-count : (w : List ℕ) (a b : ℕ) → length w ≡ row_size → get_or (set (set w 0 a) 1 b) 1 0 ≡ b
posted-count w a b room = set-second w 0 1 a b room (omega arith) (omega arith) (λ e. omega arith)

pub valued-count : (w : List ℕ) (a b : ℕ) → length w ≡ row_size → get_or (set (set w 2 a) 3 b) 1 0 ≡ get_or w 1 0
valued-count w a b room = beside w 2 3 a b room (omega arith) (omega arith) (λ e. omega arith) 1 (λ e. omega arith) (λ e. omega arith)

module _ (w : List ℕ) (p : List (List ℕ)) (dst payload : ℕ) (room : length w ≡ row_size) (h : get_or w 1 0 < length p) (hd : dst < 256)
    (hp : payload < 4294967296) where
  pub turned-post : Turned (posting (record { 0 = dst }) (record { 0 = payload })) w p
      (set (set w 0 (get_or w 0 0 + 1)) 1 (get_or w 1 0 + 1)) (set p (get_or w 1 0) (get_or w 0 0 ∷ dst ∷ payload ∷ 0 ∷ []))
  turned-post =
      let v = set (set w 0 (get_or w 0 0 + 1)) 1 (get_or w 1 0 + 1) in
      let same : (k : ℕ) → (k ≡ 0 → ⊥) → (k ≡ 1 → ⊥) → get_or v k 0 ≡ get_or w k 0 =
      beside w 0 1 _ _ room (omega arith) (omega arith) (λ e. omega arith) in
      let e2 = same 2 (λ e. omega arith) (λ e. omega arith) in
      let e3 = same 3 (λ e. omega arith) (λ e. omega arith) in
      record {
        durable = posted w p dst payload room h;
        after = low-set w 0 1 _ _ (omega arith) (omega arith);
        head = λ fit. head_more w v p _ h fit hd hp (posted-count w _ _ room) e2 e3;
      }

valued : (w : List ℕ) (p : List (List ℕ)) (v : ℕ) → length w ≡ row_size → durable_in (set (set w 2 1) 3 v) p ≡ with_inner v (durable_in w p)
unfolding durable_in with_inner storage_in
valued w p v room =
    let no : ◌≡◌ {A = ℕ} 2 3 → ⊥ = λ e. omega arith in
    let i : 2 < 8 = omega arith in
    let j : 3 < 8 = omega arith in
    let e2 = set_first w 2 3 1 v room i j no in
    let e3 = set-second w 2 3 1 v room i j no in
    let e0 = beside w 2 3 1 v room i j no 0 (λ e. omega arith) (λ e. omega arith) in
    let e1 = beside w 2 3 1 v room i j no 1 (λ e. omega arith) (λ e. omega arith) in
    let e4 = beside w 2 3 1 v room i j no 4 (λ e. omega arith) (λ e. omega arith) in
    let e5 = after w 2 3 1 v room i j no in
    λ k. record {
      next = record { 0 = e0 k };
      pending = map pending_in (take (e1 k) p);
      taken = map number_in (take (e4 k) (e5 k));
      inner = storage_in (e2 k) (e3 k);
    }

pub turned-value : (w : List ℕ) (p : List (List ℕ)) (v : ℕ) → length w ≡ row_size → v < 4294967296
    → Turned (with_inner v) w p (set (set w 2 1) 3 v) p
turned-value w p v room hv =
    let no : ◌≡◌ {A = ℕ} 2 3 → ⊥ = λ e. omega arith in
    let u = set (set w 2 1) 3 v in
    let e2 : get_or u 2 0 ≡ 1 = set_first w 2 3 1 v room (omega arith) (omega arith) no in
    let e3 : get_or u 3 0 ≡ v = set-second w 2 3 1 v room (omega arith) (omega arith) no in
    record {
      durable = valued w p v room;
      after = low-set w 2 3 1 v (omega arith) (omega arith);
      head = λ fit. record { sendable = rw (valued-count w 1 v room) fit.sendable; saves = omega arith; value = omega arith };
    }

-- ---- an ack
-- What `position` answers, by the elements that lead.
module _ {A : Type 0} (p : A → Bool) where
  lead-position : (l : List A) → lead (λ x. not (p x)) l ≡ position_or_len p l
  lead-position [] = refl
  lead-position (x ∷ l) = by-test (p x) (lead-position l)
    where
      by-test : (b : Bool) → lead (λ x. not (p x)) l ≡ position_or_len p l
          → ◌≡◌ {A = ℕ} (elim (not b) [ true ↦ suc (lead (λ x. not (p x)) l) | false ↦ 0 ]) (cond (not b) (1 + position_or_len p l) 0)
      by-test true e = refl
      by-test false e = omega arith

  place-found : (k n : ℕ) (b : Bool) (r : Option ℕ) → ltb k n ≡ b → r ≡ cond b (Some k) None → MatchOption r (n ≤ k) (λ at. (at ≡ k) × (at < n))
  place-found k n true None e f = cc
  place-found k n true (Some at) e f = let same : at ≡ k = cc in (same, omega (arith, ltb-true k n e))
  place-found k n false None e f = omega (arith, ltb-false k n e)
  place-found k n false (Some at) e f = cc

  pub position-leads : (l : List A) (r : Option ℕ) → r ≡ position p l
      → MatchOption r (length l ≤ lead (λ x. not (p x)) l) (λ at. (at ≡ lead (λ x. not (p x)) l) × (at < length l))
  position-leads l r e = rw (lead-position l) (place-found (position_or_len p l) (length l) _ r refl e)

module _ (n : ℕ) (l : List (List ℕ)) where
  first-is : lead (λ q. not (eqb n q.number.0)) (map pending_in l) ≡ lead (other n) l
  unfolding pending_in
  first-is = lead-map pending_in (λ q. not (eqb n q.number.0)) l

  without-it : (at : ℕ) → at ≡ lead (other n) l → at < length l → map pending_in (del at l) ≡ without (record { 0 = n }) (map pending_in l)
  unfolding without
  without-it at p h =
      let z = first-is in
      let w = length-map l pending_in in
      sym (cut-found (λ q. eqb n q.number.0) (map pending_in l) (omega arith) ∙ ap (λ (k : ℕ). del k (map pending_in l)) (z ∙ sym p)
      ∙ map-del pending_in at l)

  without-none : (at : ℕ) → at ≡ lead (other n) l → length l ≤ at → map pending_in l ≡ without (record { 0 = n }) (map pending_in l)
  unfolding without
  without-none at p h =
      let z = first-is in
      let w = length-map l pending_in in
      sym (cut-missing (λ q. eqb n q.number.0) (λ q. []) (map pending_in l) (omega arith))

module _ (w : List ℕ) (p : List (List ℕ)) (n : ℕ) (room : length w ≡ row_size) (fit : get_or w 1 0 ≤ length p) (at : ℕ)
    (e : at ≡ lead (other n) (take (get_or w 1 0) p)) where
  acked-one : at < get_or w 1 0 → (p' : List (List ℕ)) → take (get_or w 1 0 - 1) p' ≡ del at (take (get_or w 1 0) p)
      → durable_in (set w 1 (get_or w 1 0 - 1)) p' ≡ acked (record { 0 = n }) (durable_in w p)
  unfolding durable_in acked
  acked-one h p' q =
      let v = length-take-le (get_or w 1 0) p fit in
      let e1 = get_or-set_same w 1 (get_or w 1 0 - 1) 0 (omega arith) in
      let ps = ap (λ (k : ℕ). map pending_in (take k p')) e1 ∙ ap (map pending_in) q ∙ without-it n (take (get_or w 1 0) p) at e (omega arith) in
      let e0 = get_or-set_other w 1 0 (get_or w 1 0 - 1) 0 (λ z. omega arith) in
      let e2 = get_or-set_other w 1 2 (get_or w 1 0 - 1) 0 (λ z. omega arith) in
      let e3 = get_or-set_other w 1 3 (get_or w 1 0 - 1) 0 (λ z. omega arith) in
      let e4 = get_or-set_other w 1 4 (get_or w 1 0 - 1) 0 (λ z. omega arith) in
      let e5 = drop-set-lt 8 w 1 (get_or w 1 0 - 1) (omega arith) in
      λ k. record { next = record { 0 = e0 k }; pending = ps k; taken = map number_in (take (e4 k) (e5 k)); inner = storage_in (e2 k) (e3 k) }

  acked-none : get_or w 1 0 ≤ at → durable_in w p ≡ acked (record { 0 = n }) (durable_in w p)
  unfolding durable_in acked
  acked-none h =
      let v = length-take-le (get_or w 1 0) p fit in
      let ps = without-none n (take (get_or w 1 0) p) at e (omega arith) in
      λ k. record {
        next = record { 0 = get_or w 0 0 };
        pending = ps k;
        taken = map number_in (take (get_or w 4 0) (drop 8 w));
        inner = storage_in (get_or w 2 0) (get_or w 3 0);
      }

  pub turned-ack : at < get_or w 1 0 → (p' : List (List ℕ)) → take (get_or w 1 0 - 1) p' ≡ del at (take (get_or w 1 0) p)
      → Turned (acked (record { 0 = n })) w p (set w 1 (get_or w 1 0 - 1)) p'
  turned-ack h p' q = record {
    durable = acked-one h p' q;
    after = drop-set-lt 4 w 1 _ (omega arith);
    head = head-less p p' (get_or w 1 0) at (omega arith) q w room refl;
  }

  pub turned-absent : get_or w 1 0 ≤ at → Turned (acked (record { 0 = n })) w p w p
  turned-absent h = record { durable = acked-none h; after = refl; head = λ fit. fit }
