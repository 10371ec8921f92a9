-- A system that is ready, with other network and actor at a seat: the struct is written there and nowhere else.
-- Assumes nothing.
use Prim.Native.Nat.{ℕ, zero, suc, ◌<◌}
use native.Mathlib.Omega.{arith}
use mathlib.Core.Path.{◌≡◌, refl, sym, ap, ◌∙◌}
use mathlib.Core.List.{List, [], ◌∷◌, map}
use lib.ListN.{length, get_or, set, length-set, length-map}
use lib.Seq.{set-get_or}
use Rattle.types.specs.Capacities.{most_actors}
use Rattle.lists.specs.Lists.{pad}
use Rattle.lists.proofs.Places.{set-pad, map-set}
use Rattle.types.specs.declared.Id.{Id}
use Rattle.rules.specs.System as rules
use Rattle.net_network.specs.declared.Network.{Network}
use Rattle.net_network.specs.Views.{net_view, NetLaid}
use Rattle.net_network.proofs.Changes.{held}
use Rattle.link_inner.specs.declared.Table.{Table}
use Rattle.link_inner.specs.Views.{rules_of, table_as, zero_table}
use Rattle.sys_actor.specs.declared.Actor.{Actor}
use Rattle.sys_actor.specs.Views.{actor_as, ActorLaid, zero_actor}
use Rattle.sys_seat.specs.Seat.{Around, holding}
use Rattle.sys_system.specs.declared.System.{System}
use Rattle.sys_system.specs.Views.{seated, sys_view, system_of, table_for}
use Rattle.sys_system.proofs.Laws.{counted, actor-view}
use Rattle.sys_answered.specs.Views.{Ready}

-- ---- one element of a list made of another
map-kept : {A B : Type 0} (g : A → B) (l : List A) (i : ℕ) (a d : A) → g a ≡ g (get_or l i d) → map g (set l i a) ≡ map g l
map-kept g [] i a d e = refl
map-kept {B = B} g (x ∷ l) zero a d e = ap (λ (b : B). b ∷ map g l) e
map-kept {B = B} g (x ∷ l) (suc i) a d e = ap (λ (m : List B). g x ∷ m) (map-kept g l i a d e)

module _ (s : System) (r : Ready s) where
  abbrev m : rules.Sys
  m = sys_view s

  pub sized : length m.actors ≡ s.count
  sized = sym (counted s r.laid r.formed)

  module _ (i : Id) (h : i.0 < s.count) where
    pub inside : i.0 < length m.actors
    inside = let c = sized in omega arith

    -- The system itself is around the seat.
    abbrev pub hall : Around i
    hall = record { sys = m; there = inside }

    abbrev table : Table
    table = get_or s.tables i.0 zero_table

    abbrev actor : Actor
    actor = get_or s.actors i.0 zero_actor

    -- It holds its own network and actor.
    pub held-own : holding i hall (net_view s.network) (seated table actor) ≡ m
    unfolding rules.actor
    held-own =
        let v : set m.actors i.0 (seated table actor) ≡ m.actors =
        ap (set m.actors i.0) (actor-view s r.laid r.formed i h) ∙ set-get_or m.actors i.0 (rules.unstarted []) in
        λ j. record { net = net_view s.network; actors = v j }

    -- The rules of a table are those of the actor at its place.
    same-rules : rules_of table ≡ (rules.actor m i).rules
    same-rules = ap (λ (b : rules.Actor). b.rules) (actor-view s r.laid r.formed i h)

    -- Others, put in their places.
    pub put-system : (n : Network) (b : Actor) → NetLaid n → ActorLaid b
        → ◌≡◌ {A = System} (record { count = s.count; network = n; actors = set s.actors i.0 b; tables = s.tables })
        (system_of (holding i hall (net_view n) (seated table b)))
    unfolding rules.actor
    put-system n b laid own =
        let l = m.actors in
        let x = seated table b in
        let c : s.count ≡ length (set l i.0 x) = sym (length-set l i.0 x ∙ sized) in
        let a : set s.actors i.0 b ≡ pad most_actors zero_actor (map actor_as (set l i.0 x)) =
        ap (λ (y : System). set y.actors i.0 b) r.laid
        ∙ ap (set (pad most_actors zero_actor (map actor_as l)) i.0) own
        ∙ set-pad most_actors (map actor_as l) i.0 (actor_as x) zero_actor (rw (length-map l actor_as) inside)
        ∙ ap (pad most_actors zero_actor) (map-set actor_as i.0 x l) in
        let t : s.tables ≡ pad most_actors zero_table (map table_for (set l i.0 x)) =
        ap (λ (y : System). y.tables) r.laid ∙ ap (pad most_actors zero_table)
        (sym (map-kept table_for l i.0 x (rules.unstarted []) (ap table_as same-rules))) in
        let w = held n laid in
        λ j. record { count = c j; network = w j; actors = a j; tables = t j }
