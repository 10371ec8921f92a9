-- What is loaded is laid out, and the row of a start says what the rules' reply says.
-- Assumes nothing.
use Prim.Native.Nat.{ℕ, zero, suc, ◌≤◌, ◌<◌}
use native.Mathlib.Omega.{arith}
use mathlib.Core.Path.{◌≡◌, refl, sym, ap, ◌∙◌}
use mathlib.Core.Bool.{Bool, true, false}
use mathlib.Core.List.{List, [], map}
use lib.ListN.{length, take, drop, get_or, set, replicate, length-set}
use lib.Seq.{get_or-set_same, get_or-set_other}
use lib.Dec.{ltb}
use borrow.Author.Tests.{ltb-true, ltb-false, lt-ltb, le-ltb}
use Rattle.lists.specs.Lists.{choose}
use Rattle.types.specs.Capacities.{most_pending}
use Rattle.std.specs.Prelude.{Option, Some, None}
use Rattle.rules.specs.Inner.{Reply, at_start, nobody}
use Rattle.rules.specs.Link.{fresh, durable_of}
use Rattle.link_tables.specs.Rows.{RowLaid, TableLaid, orders, rules_in, start_event, start_value}
use Rattle.link_tables.proofs.Told.{zero-laid}
use Rattle.link_tables.proofs.Replies.{start-replies, start_none}
use Rattle.link_rows.specs.Rows.{row_size, pending_in, number_in, storage_in, durable_in}
use Rattle.link_rows.proofs.Heads.{sendable-same}
use Rattle.sys_rows.specs.Rows.{stored_in, fresh_row, RowsLaid, Settled}
use Rattle.sys_rows.proofs.Laws.{timers-small, aside, aside-head, tail_at, tail-marks}
use Rattle.sys_rows.proofs.Fresh.{fresh-durable, fresh-laid}
use Rattle.sys_wake.specs.Starts.{begun, Loaded, saved_in, start_place, start_row}

-- ---- marks beside a durable part
-- Mark 5 alone.
pub mark-laid : (w : List ℕ) (p : List (List ℕ)) (m : ℕ) → RowsLaid w p → RowsLaid (set w 5 m) p
mark-laid w p m laid =
    let other : (i : ℕ) → (i ≡ 5 → ⊥) → get_or (set w 5 m) i 0 ≡ get_or w i 0 = λ i n. get_or-set_other w 5 i m 0 n in
    let e6 = other 6 (λ z. omega arith) ∙ sym (tail_at w 2) in
    let e7 = other 7 (λ z. omega arith) ∙ sym (tail_at w 3) in
    let y6 = laid.tail.timers in
    let y7 = laid.tail.state in
    record {
      room = length-set w 5 m ∙ laid.room;
      places = laid.places;
      pending = let z = other 1 (λ z. omega arith) in let y = laid.pending in omega arith;
      head = aside-head w 5 m (omega arith) (omega arith) p laid.head;
      tail = tail-marks w (set w 5 m) laid.tail (other 4 (λ z. omega arith)) (omega arith) (omega arith) (λ i. other _ (λ z. omega arith));
    }

-- The three marks, with state 0.
module _ (u : List ℕ) (p : List (List ℕ)) (laid : RowsLaid u p) (m t : ℕ) (ht : t < 4294967296) where
  abbrev v : List ℕ
  v = set (set (set u 5 m) 6 t) 7 0

  other : (i : ℕ) → (i ≡ 5 → ⊥) → (i ≡ 6 → ⊥) → (i ≡ 7 → ⊥) → get_or v i 0 ≡ get_or u i 0
  other i a b c = get_or-set_other (set (set u 5 m) 6 t) 7 i 0 0 c ∙ get_or-set_other (set u 5 m) 6 i t 0 b ∙ get_or-set_other u 5 i m 0 a

  one : length (set u 5 m) ≡ row_size
  one = length-set u 5 m ∙ laid.room

  two : length (set (set u 5 m) 6 t) ≡ row_size
  two = length-set (set u 5 m) 6 t ∙ one

  at_mark : get_or v 5 0 ≡ m
  at_mark =
      let z = laid.room in
      get_or-set_other (set (set u 5 m) 6 t) 7 5 0 0 (λ z. omega arith) ∙ get_or-set_other (set u 5 m) 6 5 t 0 (λ z. omega arith)
      ∙ get_or-set_same u 5 m 0 (omega arith)

  at-timers : get_or v 6 0 ≡ t
  at-timers = let z = one in get_or-set_other (set (set u 5 m) 6 t) 7 6 0 0 (λ z. omega arith) ∙ get_or-set_same (set u 5 m) 6 t 0 (omega arith)

  at-state : get_or v 7 0 ≡ 0
  at-state = let z = two in get_or-set_same (set (set u 5 m) 6 t) 7 0 0 (omega arith)

  pub marked : (w : List ℕ) → get_or w 5 0 ≡ m → Settled (durable_in u p) t 0 w v p
  marked w e =
      let a = at-timers in
      let b = at-state in
      record {
        durable = aside (set (set u 5 m) 6 t) 7 0 (omega arith) (omega arith) p ∙ aside (set u 5 m) 6 t (omega arith) (omega arith) p
            ∙ aside u 5 m (omega arith) (omega arith) p;
        crashed = at_mark ∙ sym e;
        timers = at-timers;
        state = at-state;
        laid = record {
          room = length-set (set (set u 5 m) 6 t) 7 0 ∙ two;
          places = laid.places;
          pending = let z = other 1 (λ z. omega arith) (λ z. omega arith) (λ z. omega arith) in let y = laid.pending in omega arith;
          head = aside-head (set (set u 5 m) 6 t) 7 0 (omega arith) (omega arith) p
              (aside-head (set u 5 m) 6 t (omega arith) (omega arith) p (aside-head u 5 m (omega arith) (omega arith) p laid.head));
          tail = tail-marks u v laid.tail (other 4 (λ z. omega arith) (λ z. omega arith) (λ z. omega arith)) (omega arith) (omega arith)
              (λ i. other _ (λ z. omega arith) (λ z. omega arith) (λ z. omega arith));
        };
      }

-- ---- what a start begins from
begun-none : (k : List ℕ) (q : List (List ℕ)) → get_or k 5 0 ≡ 0 → begun k q ≡ fresh
unfolding durable_of stored_in
begun-none k q e = rw e

begun-some : (k : List ℕ) (q : List (List ℕ)) → (get_or k 5 0 ≡ 0 → ⊥) → begun k q ≡ durable_in k q
unfolding durable_of stored_in
begun-some k q n = go (get_or k 5 0) n
  where
    go : (m : ℕ) → (m ≡ 0 → ⊥) → durable_of fresh (stored_in m (durable_in k q)) ≡ durable_in k q
    go zero n = absurd (n refl)
    go (suc m) n = refl

module _ (w k : List ℕ) (p q : List (List ℕ)) (live : RowsLaid w p) (kept : RowsLaid k q) where
  few : get_or w 6 0 < 4294967296
  few = timers-small w p live

  pub loaded-fresh : get_or k 5 0 ≡ 0 → Loaded w k q (set (set (set fresh_row 5 (get_or w 5 0)) 6 (get_or w 6 0)) 7 0) p
  loaded-fresh e = rw (begun-none k q e, ← fresh-durable p) (marked fresh_row p (fresh-laid p live.places) (get_or w 5 0) (get_or w 6 0) few w refl)

  -- The records that are counted are copied.
  module _ (p' : List (List ℕ)) (same : take (get_or k 1 0) p' ≡ take (get_or k 1 0) q) (places : length p' ≡ most_pending) where
    copied_is : durable_in k p' ≡ durable_in k q
    unfolding durable_in
    copied_is = λ j. record {
      next = record { 0 = get_or k 0 0 };
      pending = map pending_in (same j);
      taken = map number_in (take (get_or k 4 0) (drop 8 k));
      inner = storage_in (get_or k 2 0) (get_or k 3 0);
    }

    copied-laid : RowsLaid k p'
    copied-laid = record {
      room = kept.room;
      places = places;
      pending = kept.pending;
      head = record {
        sendable = sendable-same q p' (get_or k 1 0) same kept.head.sendable;
        saves = kept.head.saves;
        value = kept.head.value;
      };
      tail = kept.tail;
    }

    pub loaded-stored : (get_or k 5 0 ≡ 0 → ⊥) → Loaded w k q (set (set (set k 5 (get_or w 5 0)) 6 (get_or w 6 0)) 7 0) p'
    loaded-stored n = rw (begun-some k q n, ← copied_is) (marked k p' copied-laid (get_or w 5 0) (get_or w 6 0) few w refl)

-- ---- the row of a start
-- What a row says is the reply.
pub record Starts (a : Reply) (r : List ℕ) (value : ℕ) : Type 0 where
  pub laid : RowLaid r
  pub out : a.out ≡ orders r nobody value
  pub state : a.state ≡ get_or r 4 0

module _ (t : List (List ℕ)) (rules : ℕ) (laid : TableLaid t rules) (s : Option ℕ) where
  abbrev at : ℕ
  at = start_place t rules (start_event s) (start_value s)

  starts : Starts (at_start (rules_in t rules) s) (start_row t rules (start_event s) (start_value s)) (start_value s)
  unfolding start_row choose orders
  starts = go (ltb at rules) refl
    where
      by : (b : Reply) (r : List ℕ) → at_start (rules_in t rules) s ≡ b → RowLaid r
          → b.out ≡ orders r nobody (start_value s) → b.state ≡ get_or r 4 0
          → Starts (at_start (rules_in t rules) s) r (start_value s)
      by b r e l o n = record { laid = l; out = ap (λ (y : Reply). y.out) e ∙ o; state = ap (λ (y : Reply). y.state) e ∙ n }

      go : (b : Bool) → ltb at rules ≡ b → Starts (at_start (rules_in t rules) s) (choose b (get_or t at []) (replicate 16 0)) (start_value s)
      go true e =
          let h = ltb-true at rules e in
          by _ _ (start-replies s t rules at laid refl h) (laid.rows at h) refl refl
      go false e =
          let h = ltb-false at rules e in
          by _ _ (start_none s t rules at laid refl h) zero-laid refl refl

  pub starts_by : (event value : ℕ) (r : List ℕ) → event ≡ start_event s → value ≡ start_value s → r ≡ start_row t rules event value
      → Starts (at_start (rules_in t rules) s) r value
  starts_by event value r e f g = rw (g, e, f) starts

-- ---- its event and its value, in a row
module _ (w : List ℕ) where
  saved-none : get_or w 2 0 ≡ 0 → saved_in w ≡ None
  unfolding storage_in
  saved-none e = rw e

  saved-some : (get_or w 2 0 ≡ 0 → ⊥) → saved_in w ≡ Some (get_or w 3 0)
  unfolding storage_in
  saved-some n = go (get_or w 2 0) n
    where
      go : (m : ℕ) → (m ≡ 0 → ⊥) → storage_in m (get_or w 3 0) ≡ Some (get_or w 3 0)
      go zero n = absurd (n refl)
      go (suc m) n = refl

  pub event-none : get_or w 2 0 ≡ 0 → 0 ≡ start_event (saved_in w)
  unfolding start_event
  event-none e = rw (saved-none e)

  pub event-some : (get_or w 2 0 ≡ 0 → ⊥) → 1 ≡ start_event (saved_in w)
  unfolding start_event
  event-some n = rw (saved-some n)

  pub value_none : get_or w 2 0 ≡ 0 → 0 ≡ start_value (saved_in w)
  unfolding start_value
  value_none e = rw (saved-none e)

  pub value-some : (get_or w 2 0 ≡ 0 → ⊥) → get_or w 3 0 ≡ start_value (saved_in w)
  unfolding start_value
  value-some n = rw (saved-some n)

pub few-events : (s : Option ℕ) → start_event s < 4
unfolding start_event
few-events None = omega arith
few-events (Some v) = omega arith

-- The row that is found, or that of zeros.
module _ (t : List (List ℕ)) (rules event value at : ℕ) (found : at ≡ start_place t rules event value) where
  pub row-found : at < rules → get_or t at [] ≡ start_row t rules event value
  unfolding start_row choose
  row-found h = rw (← found, lt-ltb at rules h)

  pub row-none : rules ≤ at → replicate 16 0 ≡ start_row t rules event value
  unfolding start_row choose
  row-none h = rw (← found, le-ltb at rules h)
