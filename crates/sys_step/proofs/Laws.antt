-- The action on network and actor, put back: the rules' step of the whole system.
-- Assumes nothing.
use Prim.Native.Nat.{ℕ, ◌≤◌, ◌<◌}
use native.Mathlib.Omega.{arith}
use mathlib.Core.Path.{◌≡◌, refl, sym, ap, ◌∙◌, subst}
use mathlib.Core.Bool.{Bool, true, false, true≢false, false≢true}
use mathlib.Core.List.{[], ◌∷◌, map}
use lib.ListN.{length, get_or, length-map}
use borrow.Author.Tests.{leb-true}
use Rattle.types.specs.Capacities.{most_actors, last_state}
use Rattle.lists.specs.Lists.{choose, every}
use Rattle.lists.proofs.Members.{every-cons}
use Rattle.lists.proofs.Places.{length-pad, get-any}
use Rattle.sys_act.proofs.Acts.{seat-in}
use Rattle.types.specs.declared.Id.{Id}
use Rattle.types.specs.declared.Action.{Action}
use Rattle.answers.specs.Answers.{Done}
use Rattle.answers.specs.Answers.{answer_number, answer_of, is_done}
use Rattle.answers.proofs.Numbers.{number-answer}
use Rattle.rules.specs.Outcome.{Outcome, done, refused, guard, base}
use Rattle.rules.specs.System.{systems}
use Rattle.rules.specs.System as rules
use Rattle.rules.specs.Run.{step}
use Rattle.rules.specs.WellFormed.{well_formed}
use Rattle.rules.proofs.Laws.{Holds}
use Rattle.rules.proofs.Formed.{step-formed}
use Rattle.rules.proofs.Answers.{formed-step}
use Rattle.net_network.specs.Views.{net_view}
use Rattle.link_inner.specs.declared.Table.{Table}
use Rattle.link_inner.specs.Views.{zero_table}
use Rattle.link_durable.specs.Views.{durable_fine, stored_fine}
use Rattle.sys_actor.specs.declared.Actor.{Actor}
use Rattle.sys_actor.specs.Views.{actor_as, actor_fine, zero_actor}
use Rattle.sys_actor.proofs.Laws.{fine-is, actor-kept}
use Rattle.sys_seat.specs.Seat.{holding}
use Rattle.sys_act.specs.Seats.{seat, seat_of}
use Rattle.sys_system.specs.declared.System.{System}
use Rattle.sys_system.specs.Views.{seated, sys_view, SystemLaid, system_fine, table_for}
use Rattle.sys_system.proofs.Laws.{formed-of, counted, net-ready, seat-ok, actor-at, table-is-ok, image-laid, system-back}
use Rattle.sys_answered.specs.Views.{Ready, answered_of}
use Rattle.sys_step.specs.declared.Touched.{Touched}
use Rattle.sys_step.specs.Views.{step_of, Touchable, Touches, put_touched}
use Rattle.sys_step.proofs.Seats.{sized, hall, held-own, put-system}

module _ (s : System) (r : Ready s) (a : Action) where
  abbrev m : rules.Sys
  m = sys_view s

  pub some : 1 ≤ s.count
  some = let z = (formed-of m r.formed).one in let c = counted s r.laid r.formed in omega arith

  pub few : s.count ≤ most_actors
  few = let z = (formed-of m r.formed).few in let c = counted s r.laid r.formed in omega arith

  abbrev i : Id
  i = seat_of s.count a

  pub inside : seat s.count a < s.count
  inside = seat-in s.count a some

  abbrev table : Table
  table = get_or s.tables i.0 zero_table

  abbrev actor : Actor
  actor = get_or s.actors i.0 zero_actor

  -- The actor at the seat is well formed.
  at-seat : actor_fine (length m.actors) actor ≡ true
  at-seat =
      ap (actor_fine (length m.actors)) (actor-at s r.laid r.formed i inside)
      ∙ actor-kept (length m.actors) (rules.actor m i) (seat-ok s r.laid r.formed i inside) (formed-of m r.formed).few

  there : Touchable s.count s.network actor table
  unfolding durable_fine stored_fine
  there =
      let f = fine-is (length m.actors) actor at-seat in
      record {
        few = few;
        net = net-ready s r.laid r.formed;
        link = (every-cons _ _ f.durable).0;
        stored = (every-cons _ _ f.stored).0;
        state = leb-true actor.link.state last_state f.state;
        table = table-is-ok s r.laid r.formed i inside;
      }

  -- What the rules' action is, put back.
  module _ (x : Touched) (t : Touches s.count a s.network actor table x) where
    own : holding i (hall s r i inside) (net_view s.network) (seated table actor) ≡ m
    own = held-own s r i inside

    is-runs : is_done x.answer ≡ true
        → systems (rules.act base m a) ≡ done (holding i (hall s r i inside) (net_view x.network) (seated table x.actor))
    is-runs h = ap (λ (y : rules.Sys). systems (rules.act base y a)) (sym own) ∙ t.runs h (hall s r i inside) (sized s r)

    is-stops : is_done x.answer ≡ false → systems (rules.act base m a) ≡ refused (answer_number x.answer)
    is-stops h = ap (λ (y : rules.Sys). systems (rules.act base y a)) (sym own) ∙ t.stops h (hall s r i inside) (sized s r)

    put : (d : Bool) → is_done x.answer ≡ d → put_touched s i.0 x ≡ answered_of s (systems (rules.act base m a))
    unfolding choose answer_of
    put true h =
        let w = put-system s r i inside x.network x.actor t.network t.actor in
        rw h ((λ j. record { answer = Done; system = w j }) ∙ sym (ap (answered_of s) (is-runs h)))
    put false h =
        let v = number-answer x.answer in
        rw h ((λ j. record { answer = sym v j; system = s }) ∙ sym (ap (answered_of s) (is-stops h)))

  -- ---- as the code reads them: whatever stands beyond the arrays
  module _ (k : ℕ) (here : k ≡ seat s.count a) (d : Actor) (e : Table) where
    pub below : k < most_actors
    below = let h = inside in let f = few in omega arith

    same-actor : get_or s.actors k d ≡ actor
    same-actor =
        let n = ap (λ (x : System). length x.actors) r.laid ∙ length-pad most_actors zero_actor (map actor_as m.actors)
        (let z = (formed-of m r.formed).few in let q = length-map m.actors actor_as in omega arith) in
        get-any s.actors k d zero_actor (let b = below in omega arith) ∙ ap (λ (j : ℕ). get_or s.actors j zero_actor) here

    same-table : get_or s.tables k e ≡ table
    same-table =
        let n = ap (λ (x : System). length x.tables) r.laid ∙ length-pad most_actors zero_table (map table_for m.actors)
        (let z = (formed-of m r.formed).few in let q = length-map m.actors table_for in omega arith) in
        get-any s.tables k e zero_table (let b = below in omega arith) ∙ ap (λ (j : ℕ). get_or s.tables j zero_table) here

    pub touchable : Touchable s.count s.network (get_or s.actors k d) (get_or s.tables k e)
    touchable = rw (same-actor, same-table) there

    pub act-done : (x : Touched) → Touches s.count a s.network (get_or s.actors k d) (get_or s.tables k e) x
        → put_touched s k x ≡ answered_of s (systems (rules.act base m a))
    act-done x t =
        ap (λ (j : ℕ). put_touched s j x) here
        ∙ put x (subst (λ (y : Actor). Touches s.count a s.network y table x) same-actor
        (subst (λ (y : Table). Touches s.count a s.network (get_or s.actors k d) y x) same-table t)) (is_done x.answer) refl

-- ---- the test before the step
refused-by : (l w : Bool) (o : Outcome rules.Next) → every (l ∷ w ∷ []) ≡ false → guard l 9 (systems (guard w 9 o)) ≡ refused 9
unfolding guard systems every
refused-by false w o e = refl
refused-by true false o e = refl
refused-by true true o e = absurd (true≢false e)

pub fails : (s : System) (a : Action) → system_fine s ≡ false → step_of s a ≡ refused 9
unfolding system_fine step_of step
fails s a e = refused-by _ _ _ e

granted-by : (l w : Bool) (o : Outcome rules.Next) → every (l ∷ w ∷ []) ≡ true → guard l 9 (systems (guard w 9 o)) ≡ systems o
unfolding guard every
granted-by false w o e = absurd (false≢true e)
granted-by true false o e = absurd (false≢true e)
granted-by true true o e = refl

pub passes : (s : System) (a : Action) → system_fine s ≡ true → step_of s a ≡ systems (rules.act base (sys_view s) a)
unfolding system_fine step_of step
passes s a e = granted-by _ _ _ e

-- ---- a step leaves a system that is laid out and well formed
next-ready : (s : System) (a : Action) (o : Outcome rules.Next) → Ready s → Holds (λ (x : rules.Next). well_formed base x.sys ≡ true) o
    → Ready (answered_of s (systems o)).system
unfolding systems
next-ready s a (done x) r h = let w = h.value x refl in record { laid = image-laid x.sys w; formed = rw (system-back x.sys w) w }
next-ready s a (refused k) r h = r

pub act-keeps : (s : System) (a : Action) → Ready s → Ready (answered_of s (systems (rules.act base (sys_view s) a))).system
act-keeps s a r = next-ready s a (rules.act base (sys_view s) a) r (subst (Holds (λ (x : rules.Next). well_formed base x.sys ≡ true))
    (formed-step base (sys_view s) a r.formed) (step-formed base (sys_view s) a))

-- What the test found.
pub fine-ready : (s : System) → system_fine s ≡ true → SystemLaid s → Ready s
unfolding system_fine
fine-ready s e l = record { laid = l; formed = (every-cons _ _ (every-cons _ _ e).1).0 }
