-- An action at a seat is one of the whole system: the rows of that seat are put back among those of the others.
-- Assumes nothing.
use Prim.Native.Nat.{ℕ, ◌≤◌, ◌<◌}
use native.Mathlib.Omega.{arith}
use native.Mathlib.Decide.{ℕ_discrete}
use mathlib.Core.Path.{◌≡◌, refl, sym, ap, ◌∙◌, subst}
use mathlib.Core.List.{List}
use lib.ListN.{length, get_or, set, length-set}
use lib.Seq.{get_or-set_same, get_or-set_other, set-get_or}
use Rattle.sys_act.proofs.Acts.{seat-in}
use Rattle.types.specs.Capacities.{most_actors, most_entries, most_copies, most_pending}
use Rattle.types.specs.declared.Id.{Id}
use Rattle.types.specs.declared.Kind.{Kind}
use Rattle.types.specs.declared.Action.{Action}
use Rattle.std.specs.Prelude.{Option}
use Rattle.rules.specs.Outcome.{done, base}
use Rattle.rules.specs.System.{Actor, systems, act}
use Rattle.net_rows.specs.declared.Sent.{Sent}
use Rattle.net_rows.specs.Views.{net_of}
use Rattle.sys_seat.specs.Seat.{Around}
use Rattle.sys_reacts.specs.Views.{limits_of}
use Rattle.sys_rows.specs.declared.ActorRows.{ActorRows}
use Rattle.sys_moves.specs.Views.{Rows, rows_in, actor_at, sys_at, caps_of, Fine, Stepped, last_then}
use Rattle.sys_act.specs.Seats.{seat, seat_of}
use Rattle.sys_all_rows.specs.Views.{each, Hall, Books, no_actor, rows_at, rules_at, sys_of, Stands, Moved}
use Rattle.sys_all_rows.proofs.Places.{length-each, each_set}
use Rattle.types.specs.declared.Envelope.{Envelope}

-- ---- rows put back
module _ (k : ℕ) (cs : List (List ℕ)) (x : ActorRows) (h : Hall) where
  pub put-here : length h ≡ most_actors → k < most_actors → rows_at cs (set h k x) k ≡ rows_in cs x
  put-here z inside = ap (rows_in cs) (get_or-set_same h k x no_actor (omega arith))

  pub put-beside : (i : ℕ) → (i ≡ k → ⊥) → rows_at cs (set h k x) i ≡ rows_at cs h i
  put-beside i o = ap (rows_in cs) (get_or-set_other h k i x no_actor o)

-- ---- the system around a seat
module _ (count : ℕ) (kind : Kind) (b : Books) (cs : List (List ℕ)) (h : Hall) (z : length h ≡ most_actors) (few : count ≤ most_actors)
    (k : ℕ) (inside : k < count) where
  abbrev me : Id
  me = record { 0 = k }

  abbrev actors : List Actor
  actors = each count (λ i. actor_at (rules_at b i) (rows_at cs h i))

  abbrev around : Option Envelope → ℕ → Around me
  around last used = record {
    sys = sys_of count kind last cs used b h;
    there = let e = length-each count (λ i. actor_at (rules_at b i) (rows_at cs h i)) in omega arith;
  }

  -- With other rows in the seat.
  view-put : (last : Option Envelope) (used : ℕ) (ds : List (List ℕ)) (x : ActorRows) (hall : Around me) → hall.sys.actors ≡ actors
      → sys_of count kind last ds used b (set h k x) ≡ sys_at me hall kind last used (rules_at b k) (rows_in ds x)
  view-put last used ds x hall e =
      let m : k < most_actors = omega arith in
      let w = each_set count (λ i. actor_at (rules_at b i) (rows_at cs h i)) (λ i. actor_at (rules_at b i) (rows_at ds (set h k x) i)) k
      (actor_at (rules_at b k) (rows_in ds x)) inside
      (ap (actor_at (rules_at b k)) (put-here k ds x h z m)) (λ i o. ap (actor_at (rules_at b i)) (put-beside k ds x h i o)) in
      let v = w ∙ ap (λ (l : List Actor). set l k (actor_at (rules_at b k) (rows_in ds x))) (sym e) in
      λ j. record { net = net_of kind last ds used; actors = v j }

  -- With those that are there.
  view-here : (last : Option Envelope) (used : ℕ) (hall : Around me) → hall.sys.actors ≡ actors
      → sys_at me hall kind last used (rules_at b k) (rows_at cs h k) ≡ sys_of count kind last cs used b h
  view-here last used hall e = sym (view-put last used cs (get_or h k no_actor) hall e)
      ∙ ap (sys_of count kind last cs used b) (set-get_or h k no_actor)

caps-base : (cs : List (List ℕ)) → length cs ≡ most_entries → caps_of cs ≡ base
caps-base cs e = λ j. record { room = record { entries = e j; copies = most_copies }; limits = limits_of most_pending }

-- ---- a step at the seat of an action
module _ {count : ℕ} {kind : Kind} {used n : ℕ} {b : Books} {cs : List (List ℕ)} {h : Hall} (s : Stands count kind used n b cs h)
    (a : Action) (k : ℕ) (here : k ≡ seat count a) where
  pub inside : k < count
  inside = let w = seat-in count a s.one in omega arith

  pub below : k < most_actors
  below = let w = inside in let f = s.few in omega arith

  module _ (r : Sent) (ds : List (List ℕ)) (x : ActorRows)
      (g : Stepped count a (seat_of count a) (rules_at b k) kind used n (rows_at cs h k) r (rows_in ds x)) where
    abbrev id : Id
    id = record { 0 = k }

    at-seat : Stepped count a id (rules_at b k) kind used n (rows_at cs h k) r (rows_in ds x)
    at-seat = subst (λ (i : ℕ). Stepped count a (record { 0 = i }) (rules_at b k) kind used n (rows_at cs h k) r (rows_in ds x)) (sym here) g

    abbrev hall : Option Envelope → Around id
    hall last = around count kind b cs h s.sized s.few k inside last used

    size : (last : Option Envelope) → length (hall last).sys.actors ≡ count
    size last = length-each count (λ i. actor_at (rules_at b i) (rows_at cs h i))

    -- The same action, as the rules have it of the whole system.
    whole : (last : Option Envelope) → systems (act (caps_of cs) (sys_at id (hall last) kind last used (rules_at b k) (rows_at cs h k)) a)
        ≡ systems (act base (sys_of count kind last cs used b h) a)
    whole last =
        let c = caps-base cs (s.fine k inside).room in
        let v = view-here count kind b cs h s.sized s.few k inside last used (hall last) refl in
        λ j. systems (act (c j) (v j) a)

    fine-at : (i : ℕ) → i < count → Dec (i ≡ k) → Fine kind r.used r.len (rows_at ds (set h k x) i)
    fine-at i w (yes e) = subst (λ (m : ℕ). Fine kind r.used r.len (rows_at ds (set h k x) m)) (sym e)
        (subst (Fine kind r.used r.len) (sym (put-here k ds x h s.sized below)) at-seat.fine)
    fine-at i w (no o) =
        let f = s.fine i w in
        let g = at-seat.fine in
        subst (Fine kind r.used r.len) (sym (put-beside k ds x h i o))
        (record { net = g.net; room = g.room; live = f.live; kept = f.kept })

    pub moved : Moved count a kind used n b cs h r ds (set h k x)
    moved = record {
      stands = record {
        one = s.one;
        few = s.few;
        sized = length-set h k x ∙ s.sized;
        fine = λ i w. fine-at i w (ℕ_discrete i k);
        tables = s.tables;
      };
      runs = λ d last.
          sym (whole last) ∙ at-seat.runs d (hall last) (size last) last
          ∙ ap done (sym (view-put count kind b cs h s.sized s.few k inside (last_then kind a last) r.used ds x (hall last) refl));
      stops = λ d last. sym (whole last) ∙ at-seat.stops d (hall last) (size last) last;
      same = λ d. let e = at-seat.same d in
          let own : x ≡ get_or h k no_actor =
          λ j. record { live = (e.0 j).live; pend = (e.0 j).pend; kept = (e.0 j).kept; stored = (e.0 j).stored } in
          (ap (λ (y : Rows). y.cells) e.0, ap (set h k) own ∙ set-get_or h k no_actor, e.1, e.2);
    }
