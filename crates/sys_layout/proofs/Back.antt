-- An actor's rows laid back: the struct holds the actor that they are, whatever its rules.
-- Assumes nothing.
use Prim.Native.Nat.{ℕ}
use mathlib.Core.Path.{◌≡◌, refl, sym, ap}
use mathlib.Core.List.{List, []}
use lib.ListN.{get_or}
use Rattle.types.specs.declared.Rule.{Rule}
use Rattle.rules.specs.System as rules
use Rattle.link_timers.proofs.Listed.{listed-timers}
use Rattle.sys_actor.specs.Views.{actor_view, actor_as, ActorLaid}
use Rattle.sys_actor.proofs.Laws.{actor-back}
use Rattle.sys_rows.specs.Rows.{actor_of}

module _ (rs : List Rule) (w : List ℕ) (p : List (List ℕ)) (k : List ℕ) (q : List (List ℕ)) where
  abbrev own : rules.Actor
  own = actor_of rs w p k q

  -- The struct does not hold the rules.
  pub no-rules : actor_as (actor_of [] w p k q) ≡ actor_as own
  unfolding actor_of
  no-rules = refl

  pub read-actor : actor_view rs (actor_as own) ≡ own
  unfolding actor_of
  read-actor = unfold actor_of in actor-back own (listed-timers (get_or w 6 0))

  pub read-laid : ActorLaid (actor_as own)
  unfolding actor_of
  read-laid = unfold actor_of in ap actor_as (sym (actor-back (actor_of [] w p k q) (listed-timers (get_or w 6 0))))
