-- The rows of an actor are laid out, and they are the actor; the actor that is read off rows.
-- Assumes nothing.
use Prim.Native.Nat.{ℕ, zero, suc, ◌+◌, ◌≤◌, ◌<◌}
use native.Mathlib.Omega.{arith}
use mathlib.Core.Path.{◌≡◌, refl, sym, ap, ◌∙◌}
use mathlib.Core.Bool.{Bool, true, false}
use Rattle.std.specs.Prelude.{Some, None}
use mathlib.Core.List.{List, []}
use lib.ListN.{length, get_or, set}
use Rattle.lists.specs.Lists.{choose}
use Rattle.sys_actor.proofs.Laws.{stored-parts}
use Rattle.types.specs.Capacities.{most_pending, most_actors, last_state}
use Rattle.types.specs.declared.Rule.{Rule}
use Rattle.rules.specs.Link as rules
use Rattle.link_timers.specs.Views.{listed}
use Rattle.link_timers.proofs.Listed.{timers-listed}
use Rattle.link_durable.specs.declared.Durable.{Durable}
use Rattle.link_durable.specs.declared.Stored.{Stored}
use Rattle.link_durable.specs.Views.{durable_view, durable_as, stored_view, stored_as, durable_laid, stored_laid}
use Rattle.link_durable.proofs.Containers.{durable-small}
use Rattle.link_tables.specs.Rows.{mark}
use Rattle.link_rows.specs.Rows.{durable_in, Sendable}
use Rattle.link_layout.specs.Rows.{records_of, value_of, row_with, Readable}
use Rattle.link_layout.proofs.Held.{rows-view, records-room, row_room, row-rest, row-head}
use Rattle.sys_actor.specs.declared.Actor.{Actor}
use Rattle.sys_actor.specs.Views.{actor_view, actor_as}
use Rattle.sys_rows.specs.Rows.{stored_in, actor_of, RowsLaid}
use Rattle.sys_rows.proofs.Laws.{tail_at, sources-small, timers-small}
use Rattle.sys_layout.specs.Views.{bit, LaidOut}

mark-bit : (b : Bool) → mark (bit b) ≡ b
mark-bit true = refl
mark-bit false = refl

stored-bit : (b : Bool) (d : rules.Durable) → stored_in (bit b) d ≡ choose b (Some d) None
unfolding stored_in choose
stored-bit true d = refl
stored-bit false d = refl

-- ---- laid out
module _ (d : rules.Durable) (five six seven : ℕ) (hp : length d.pending ≤ most_pending) (ht : length d.taken ≤ most_actors)
    (fit : Sendable (records_of d) (length d.pending)) (hv : value_of d.inner < 4294967296) (h6 : six < 4294967296) (h7 : seven ≤ last_state) where
  rows-laid : RowsLaid (row_with d five six seven) (records_of d)
  rows-laid = record {
    room = row_room d five six seven ht;
    places = records-room d hp;
    pending = hp;
    head = row-head d five six seven (records_of d) fit hv;
    tail = record {
      sources = ht;
      timers = h6;
      state = h7;
      rest = λ i a b.
          let e : 4 + (4 + i) ≡ 8 + i = omega arith in
          tail_at (row_with d five six seven) (4 + i) ∙ ap (λ (n : ℕ). get_or (row_with d five six seven) n 0) e ∙ row-rest d five six seven ht i a;
    };
  }

-- The marks, put in place.
pub with-mark : (d : rules.Durable) (b : Bool) (six seven : ℕ) (r : List ℕ) → r ≡ row_with d 0 0 0 → b ≡ true
    → set (set (set r 6 six) 7 seven) 5 1 ≡ row_with d (bit b) six seven
with-mark d b six seven r e t =
    ap (λ (l : List ℕ). set (set (set l 6 six) 7 seven) 5 1) e ∙ (λ j. row_with d (bit (sym t j)) six seven)

pub without-mark : (d : rules.Durable) (b : Bool) (six seven : ℕ) (r : List ℕ) → r ≡ row_with d 0 0 0 → b ≡ false
    → set (set r 6 six) 7 seven ≡ row_with d (bit b) six seven
without-mark d b six seven r e t = ap (λ (l : List ℕ). set (set l 6 six) 7 seven) e ∙ (λ j. row_with d (bit (sym t j)) six seven)

pub with-stored : (d : rules.Durable) (b : Bool) (r : List ℕ) → r ≡ row_with d 0 0 0 → b ≡ true → set r 5 1 ≡ row_with d (bit b) 0 0
with-stored d b r e t = ap (λ (l : List ℕ). set l 5 1) e ∙ (λ j. row_with d (bit (sym t j)) 0 0)

pub without-stored : (d : rules.Durable) (b : Bool) (r : List ℕ) → r ≡ row_with d 0 0 0 → b ≡ false → r ≡ row_with d (bit b) 0 0
without-stored d b r e t = e ∙ (λ j. row_with d (bit (sym t j)) 0 0)

module _ (a : Actor) where
  abbrev d : rules.Durable
  d = durable_view a.link.durable

  abbrev e : rules.Durable
  e = durable_view a.stored.durable

  abbrev live : List ℕ
  live = row_with d (bit a.crashed) a.timers.0 a.link.state

  abbrev kept : List ℕ
  kept = row_with e (bit a.stored.some) 0 0

  laid-view : (rs : List Rule) → actor_of rs live (records_of d) kept (records_of e) ≡ actor_view rs a
  unfolding actor_of stored_view
  laid-view rs =
      let c = mark-bit a.crashed in
      let v = rows-view d (bit a.crashed) a.timers.0 a.link.state in
      let s = stored-bit a.stored.some (durable_in kept (records_of e))
      ∙ ap (λ (x : rules.Durable). choose a.stored.some (Some x) None) (rows-view e (bit a.stored.some) 0 0) in
      λ j. record { rules = rs; crashed = c j; timers = listed a.timers.0; link = record { durable = v j; state = a.link.state }; storage = s j }

  module _ (l1 : durable_laid a.link.durable ≡ true) (l2 : stored_laid a.stored ≡ true) (hs : a.link.state ≤ last_state)
      (ht : a.timers.0 < 4294967296) (hv : value_of a.link.durable.inner < 4294967296) (hw : value_of a.stored.durable.inner < 4294967296)
      (f1 : Sendable (records_of d) (length d.pending)) (f2 : Sendable (records_of e) (length e.pending)) where
    pub laid_out : LaidOut a (record { live = live; pend = records_of d; kept = kept; stored = records_of e })
    laid_out =
        let m = durable-small a.link.durable l1 in
        let n = durable-small a.stored.durable (stored-parts a.stored l2) in
        record {
          actor = laid-view;
          live = rows-laid d (bit a.crashed) a.timers.0 a.link.state m.0 m.1 f1 hv ht hs;
          kept = rows-laid e (bit a.stored.some) 0 0 n.0 n.1 f2 hw (omega arith) (omega arith);
        }

-- ---- and back
pub readable : (w : List ℕ) (p : List (List ℕ)) → RowsLaid w p → Readable w p
readable w p laid = record {
  room = laid.room;
  places = laid.places;
  pending = laid.pending;
  sources = sources-small w p laid;
  head = laid.head;
}

pub stored-none : (k : List ℕ) (q : List (List ℕ)) (s : Stored) → get_or k 5 0 ≡ 0 → s ≡ stored_as None
    → s ≡ stored_as (stored_in (get_or k 5 0) (durable_in k q))
unfolding stored_in
stored-none k q s e f = f ∙ ap (λ (n : ℕ). stored_as (stored_in n (durable_in k q))) (sym e)

some_stored : (n : ℕ) (d : rules.Durable) → (n ≡ 0 → ⊥) → Some d ≡ stored_in n d
unfolding stored_in
some_stored zero d h = absurd (h refl)
some_stored (suc n) d h = refl

pub stored_some : (k : List ℕ) (q : List (List ℕ)) (d : Durable) → (get_or k 5 0 ≡ 0 → ⊥) → d ≡ durable_as (durable_in k q)
    → ◌≡◌ {A = Stored} (record { some = true; durable = d }) (stored_as (stored_in (get_or k 5 0) (durable_in k q)))
stored_some k q d h e = (λ j. record { some = true; durable = e j }) ∙ ap stored_as (some_stored (get_or k 5 0) (durable_in k q) h)

module _ (w : List ℕ) (p : List (List ℕ)) (k : List ℕ) (q : List (List ℕ)) (laid : RowsLaid w p) where
  pub actor-read : (b : Bool) (d : Durable) (s : Stored) → b ≡ mark (get_or w 5 0) → d ≡ durable_as (durable_in w p)
      → s ≡ stored_as (stored_in (get_or k 5 0) (durable_in k q))
      → ◌≡◌ {A = Actor} (record { crashed = b; timers = record { 0 = get_or w 6 0 }; link = record { durable = d; state = get_or w 7 0 }; stored = s })
      (actor_as (actor_of [] w p k q))
  unfolding actor_of
  actor-read b d s e f g =
      let t = sym (timers-listed (record { 0 = get_or w 6 0 }) (timers-small w p laid)) in
      λ j. record { crashed = e j; timers = t j; link = record { durable = f j; state = get_or w 7 0 }; stored = g j }
