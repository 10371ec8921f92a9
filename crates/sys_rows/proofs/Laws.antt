-- Marks beside a durable part; what is settled and stored, as an actor.
-- Assumes nothing.
use Prim.Native.Nat.{ℕ, ◌+◌, ◌≤◌, ◌<◌}
use native.Mathlib.Omega.{arith}
use mathlib.Core.Path.{◌≡◌, sym, ap, ◌∙◌}
use Rattle.std.specs.Prelude.{Option, Some}
use mathlib.Core.List.{List, map}
use lib.ListN.{length, take, drop, get_or, set, length-set}
use lib.Seq.{get_or-set_same, get_or-set_other, get_or-drop, drop-set-lt}
use Rattle.types.specs.Capacities.{most_pending, most_actors, last_state}
use Rattle.types.specs.declared.Rule.{Rule}
use Rattle.types.specs.declared.InnerCommand.{InnerCommand}
use Rattle.rules.specs.Link.{Durable}
use Rattle.rules.specs.System.{Actor}
use Rattle.link_timers.specs.Views.{listed}
use Rattle.link_tables.specs.Rows.{mark}
use Rattle.link_rows.specs.Rows.{row_size, pending_in, number_in, storage_in, durable_in, HeadLaid, Turned}
use Rattle.link_rows.proofs.Heads.{head-same, sendable-same}
use Rattle.link_direct.specs.Direct.{noted, sends}
use Rattle.link_notes.specs.Views.{Noted}
use Rattle.sys_rows.specs.Rows.{stored_in, actor_of, TailLaid, RowsLaid, Settled, Kept}

module _ (w : List ℕ) (i v : ℕ) (h : 4 < i) (k : i < 8) where
  pub aside : (p : List (List ℕ)) → durable_in (set w i v) p ≡ durable_in w p
  unfolding durable_in
  aside p =
      let e0 = get_or-set_other w i 0 v 0 (λ z. omega arith) in
      let e1 = get_or-set_other w i 1 v 0 (λ z. omega arith) in
      let e2 = get_or-set_other w i 2 v 0 (λ z. omega arith) in
      let e3 = get_or-set_other w i 3 v 0 (λ z. omega arith) in
      let e4 = get_or-set_other w i 4 v 0 (λ z. omega arith) in
      let e5 = drop-set-lt 8 w i v k in
      λ j. record {
        next = record { 0 = e0 j };
        pending = map pending_in (take (e1 j) p);
        taken = map number_in (take (e4 j) (e5 j));
        inner = storage_in (e2 j) (e3 j);
      }

  pub aside-head : (p : List (List ℕ)) → HeadLaid w p → HeadLaid (set w i v) p
  aside-head p =
      head-same w (set w i v) p
      (get_or-set_other w i 1 v 0 (λ z. omega arith))
      (get_or-set_other w i 2 v 0 (λ z. omega arith))
      (get_or-set_other w i 3 v 0 (λ z. omega arith))

pub tail_at : (w : List ℕ) (i : ℕ) → get_or (drop 4 w) i 0 ≡ get_or w (4 + i) 0
tail_at w i = get_or-drop 4 w i 0

tail-same : (w w' : List ℕ) → drop 4 w' ≡ drop 4 w → (i : ℕ) → get_or w' (4 + i) 0 ≡ get_or w (4 + i) 0
tail-same w w' e i = sym (tail_at w' i) ∙ ap (λ (l : List ℕ). get_or l i 0) e ∙ tail_at w i

-- What is laid out, at its places.
module _ (w : List ℕ) (p : List (List ℕ)) (laid : RowsLaid w p) where
  pub sources-small : get_or w 4 0 ≤ most_actors
  sources-small = let a = tail_at w 0 in let b = laid.tail.sources in omega arith

  pub timers-small : get_or w 6 0 < 4294967296
  timers-small = let a = tail_at w 2 in let b = laid.tail.timers in omega arith

  pub state-small : get_or w 7 0 ≤ last_state
  state-small = let a = tail_at w 3 in let b = laid.tail.state in omega arith

-- Another row with the same count of sources, and the same words from place 8 on.
pub tail-marks : (w v : List ℕ) → TailLaid (drop 4 w) → get_or v 4 0 ≡ get_or w 4 0 → get_or v 6 0 < 4294967296 → get_or v 7 0 ≤ last_state
    → ((i : ℕ) → get_or v (8 + i) 0 ≡ get_or w (8 + i) 0) → TailLaid (drop 4 v)
tail-marks w v laid e4 ht hs e8 =
    let a = tail_at v 0 in
    let b = tail_at w 0 in
    let eight : (i : ℕ) → 8 + i ≡ 4 + (4 + i) = λ i. omega arith in
    record {
      sources = let z = laid.sources in omega arith;
      timers = let z = tail_at v 2 in omega arith;
      state = let z = tail_at v 3 in omega arith;
      rest = λ i h k. tail_at v (4 + i) ∙ ap (λ (n : ℕ). get_or v n 0) (sym (eight i)) ∙ e8 i ∙ ap (λ (n : ℕ). get_or w n 0) (eight i)
          ∙ sym (tail_at w (4 + i)) ∙ laid.rest i (omega arith) k;
    }

-- The marks are put in place, and the rest is laid out as before.
module _ (w : List ℕ) (t s : ℕ) (room : length w ≡ row_size) (laid : TailLaid (drop 4 w)) (ht : t < 4294967296) (hs : s ≤ last_state) where
  abbrev v : List ℕ
  v = set (set w 6 t) 7 s

  at_other : (i : ℕ) → (i ≡ 6 → ⊥) → (i ≡ 7 → ⊥) → get_or v i 0 ≡ get_or w i 0
  at_other i p q = get_or-set_other (set w 6 t) 7 i s 0 q ∙ get_or-set_other w 6 i t 0 p

  at-timers : get_or v 6 0 ≡ t
  at-timers = get_or-set_other (set w 6 t) 7 6 s 0 (λ z. omega arith) ∙ get_or-set_same w 6 t 0 (omega arith)

  at-state : get_or v 7 0 ≡ s
  at-state = get_or-set_same (set w 6 t) 7 s 0 (omega (arith, length-set w 6 t))

  pub marked-tail : TailLaid (drop 4 v)
  marked-tail =
      let e6 = at-timers in
      let e7 = at-state in
      tail-marks w v laid (at_other 4 (λ z. omega arith) (λ z. omega arith)) (omega arith) (omega arith)
      (λ i. at_other (8 + i) (λ z. omega arith) (λ z. omega arith))

-- Commands are noted, then timers and state put in place.
module _ (os : List InnerCommand) (w : List ℕ) (p : List (List ℕ)) (w1 : List ℕ) (p1 : List (List ℕ)) (t s : ℕ)
    (laid : RowsLaid w p) (n : Noted os w p w1 p1) (r1 : length w1 ≡ row_size) (r2 : length p1 ≡ most_pending)
    (few : get_or w 1 0 + sends os ≤ most_pending) (ht : t < 4294967296) (hs : s ≤ last_state) where
  pub settled : Settled (noted os (durable_in w p)) t s w (set (set w1 6 t) 7 s) p1
  settled =
      let tl : TailLaid (drop 4 w1) = rw n.after laid.tail in
      record {
        durable = aside (set w1 6 t) 7 s (omega arith) (omega arith) p1 ∙ aside w1 6 t (omega arith) (omega arith) p1 ∙ n.durable;
        crashed = at_other w1 t s r1 tl ht hs 5 (λ z. omega arith) (λ z. omega arith) ∙ tail-same w w1 n.after 1;
        timers = at-timers w1 t s r1 tl ht hs;
        state = at-state w1 t s r1 tl ht hs;
        laid = record {
          room = length-set (set w1 6 t) 7 s ∙ length-set w1 6 t ∙ r1;
          places = r2;
          pending = let z = at_other w1 t s r1 tl ht hs 1 (λ z. omega arith) (λ z. omega arith) in let y = n.places in omega arith;
          head = aside-head (set w1 6 t) 7 s (omega arith) (omega arith) p1 (aside-head w1 6 t (omega arith) (omega arith) p1 (n.head laid.head));
          tail = marked-tail w1 t s r1 tl ht hs;
        };
      }

-- A change up to place 3.
pub settled-low : (change : Durable → Durable) (w : List ℕ) (p : List (List ℕ)) (w' : List ℕ) (p' : List (List ℕ)) → RowsLaid w p
    → Turned change w p w' p' → get_or w' 1 0 ≤ get_or w 1 0 → length w' ≡ row_size → length p' ≡ most_pending
    → Settled (change (durable_in w p)) (get_or w 6 0) (get_or w 7 0) w w' p'
settled-low change w p w' p' laid to few r1 r2 = record {
  durable = to.durable;
  crashed = tail-same w w' to.after 1;
  timers = tail-same w w' to.after 2;
  state = tail-same w w' to.after 3;
  laid = record {
    room = r1;
    places = r2;
    pending = let z = laid.pending in omega arith;
    head = to.head laid.head;
    tail = rw to.after laid.tail;
  };
}

-- The pending records that are counted are the same ones.
pub same-records : (w : List ℕ) (p q : List (List ℕ)) → take (get_or w 1 0) q ≡ take (get_or w 1 0) p → durable_in w q ≡ durable_in w p
unfolding durable_in
same-records w p q e = λ j. record {
  next = record { 0 = get_or w 0 0 };
  pending = map pending_in (e j);
  taken = map number_in (take (get_or w 4 0) (drop 8 w));
  inner = storage_in (get_or w 2 0) (get_or w 3 0);
}

pub same_head : (w : List ℕ) (p q : List (List ℕ)) → take (get_or w 1 0) q ≡ take (get_or w 1 0) p → HeadLaid w p → HeadLaid w q
same_head w p q e fit = record { sendable = sendable-same p q (get_or w 1 0) e fit.sendable; saves = fit.saves; value = fit.value }

-- What is stored is the durable part.
pub stored-durable : (w : List ℕ) (p : List (List ℕ)) (k : List ℕ) (q : List (List ℕ)) → Kept w p k q → durable_in k q ≡ durable_in w p
stored-durable w p k q kept =
    ap (λ (l : List ℕ). durable_in l q) kept.row ∙ aside w 5 1 (omega arith) (omega arith) q ∙ same-records w p q kept.records

-- ---- as an actor
module _ (rs : List Rule) (d : Durable) (t s : ℕ) (w w' : List ℕ) (p' : List (List ℕ)) (set_to : Settled d t s w w' p') where
  -- The actor that these are, with this storage.
  abbrev actor_with : Option Durable → Actor
  actor_with o = record { rules = rs; crashed = mark (get_or w 5 0); timers = listed t; link = record { durable = d; state = s }; storage = o }

  -- not stored
  pub as_settled : (k : List ℕ) (q : List (List ℕ)) → actor_of rs w' p' k q ≡ actor_with (stored_in (get_or k 5 0) (durable_in k q))
  unfolding actor_of
  as_settled k q =
      let e1 = set_to.crashed in
      let e2 = set_to.timers in
      let e3 = set_to.durable in
      let e4 = set_to.state in
      λ j. record {
        rules = rs;
        crashed = mark (e1 j);
        timers = listed (e2 j);
        link = record { durable = e3 j; state = e4 j };
        storage = stored_in (get_or k 5 0) (durable_in k q);
      }

  -- stored
  pub as-stored : (k : List ℕ) (q : List (List ℕ)) → Kept w' p' k q → actor_of rs w' p' k q ≡ actor_with (Some d)
  unfolding stored_in
  as-stored k q kept =
      let r = set_to.laid.room in
      let g : get_or k 5 0 ≡ 1 = ap (λ (l : List ℕ). get_or l 5 0) kept.row ∙ get_or-set_same w' 5 1 0 (omega arith) in
      as_settled k q ∙ ap actor_with (ap (λ (n : ℕ). stored_in n (durable_in k q)) g ∙ ap Some (stored-durable w' p' k q kept ∙ set_to.durable))

-- What is stored is laid out as the live rows are.
pub stored-laid : (w : List ℕ) (p : List (List ℕ)) (k : List ℕ) (q : List (List ℕ)) → Kept w p k q → RowsLaid w p → RowsLaid k q
stored-laid w p k q kept laid =
    let same : (i : ℕ) → (i ≡ 5 → ⊥) → get_or (set w 5 1) i 0 ≡ get_or w i 0 = λ i n. get_or-set_other w 5 i 1 0 n in
    let e6 = same 6 (λ z. omega arith) ∙ sym (tail_at w 2) in
    let e7 = same 7 (λ z. omega arith) ∙ sym (tail_at w 3) in
    let y6 = laid.tail.timers in
    let y7 = laid.tail.state in
    rw kept.row (record {
      room = length-set w 5 1 ∙ laid.room;
      places = kept.places;
      pending = let z = same 1 (λ z. omega arith) in let y = laid.pending in omega arith;
      head = aside-head w 5 1 (omega arith) (omega arith) q (same_head w p q kept.records laid.head);
      tail = tail-marks w (set w 5 1) laid.tail (same 4 (λ z. omega arith)) (omega arith) (omega arith) (λ i. same (8 + i) (λ z. omega arith));
    })
