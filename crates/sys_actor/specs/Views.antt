-- The rules' actor that the struct holds beside its table, the struct that holds one, and the whole test of an actor.
-- Assumes nothing.
use Rattle.std.specs.Prelude.{ℕ, ◌≡◌, Bool, false, not, ◌&&◌, ◌||◌, List, [], ◌∷◌, length, leb, eqb, None}
use Rattle.types.specs.Capacities.{last_state}
use Rattle.lists.specs.Lists.{every}
use Rattle.types.specs.declared.Rule.{Rule}
use Rattle.rules.specs.System as rules
use Rattle.link_timers.specs.Views.{listed, timers_of}
use Rattle.link_durable.specs.declared.Durable.{Durable}
use Rattle.link_durable.specs.declared.Link.{Link}
use Rattle.link_durable.specs.Views.{zero_durable, stored_view, stored_as, durable_laid, blank_durable, stored_laid, durable_fine, stored_fine}
use Rattle.link_durable.specs.Views.{link_view, link_as}
use Rattle.sys_actor.specs.declared.Actor.{Actor}

-- The actor with its rules.
abbrev pub actor_view : List Rule → Actor → rules.Actor
actor_view rs a = record { rules = rs; crashed = a.crashed; timers = listed a.timers.0; link = link_view a.link; storage = stored_view a.stored }

abbrev pub actor_as : rules.Actor → Actor
actor_as a = record { crashed = a.crashed; timers = timers_of a.timers; link = link_as a.link; stored = stored_as a.storage }

-- The struct is that of what it holds: its unused places are zero.
abbrev pub ActorLaid : Actor → Type 0
ActorLaid a = a ≡ actor_as (actor_view [] a)

-- ---- tests of any content
-- The links' and the stores' unused places are zero. Any word is a set of timers.
unfoldable pub actor_laid : Actor → Bool
actor_laid a = every (durable_laid a.link.durable ∷ stored_laid a.stored ∷ [])

-- No timer on a crashed actor.
unfoldable pub quiet : Actor → Bool
quiet a = not a.crashed || eqb (length (listed a.timers.0)) 0

-- Its link, and the rest of it, in the order in which the test asks them.
abbrev pub link_fine : ℕ → Link → Bool
link_fine k l = durable_fine k l.durable && leb l.state last_state

abbrev pub rest_fine : ℕ → Actor → Bool
rest_fine k a = stored_fine k a.stored && quiet a

-- Laid out and well formed beside a sound table, with k actors.
unfoldable pub actor_fine : ℕ → Actor → Bool
actor_fine k a = every (durable_fine k a.link.durable ∷ leb a.link.state last_state ∷ stored_fine k a.stored ∷ quiet a ∷ [])

-- An actor that is not used is all zero: its next number too.
abbrev pub zero_actor : Actor
zero_actor = record { crashed = false; timers = record { 0 = 0 }; link = link_as (record { durable = zero_durable; state = 0 }); stored = stored_as None }

unfoldable pub zeroed : Durable → Bool
zeroed d = every (durable_laid d ∷ blank_durable d ∷ [])

abbrev pub marks_zero : Actor → Bool
marks_zero a = not a.crashed && (eqb a.timers.0 0 && (eqb a.link.state 0 && not a.stored.some))

abbrev pub parts_zero : Actor → Bool
parts_zero a = zeroed a.link.durable && zeroed a.stored.durable

unfoldable pub blank_actor : Actor → Bool
blank_actor a = every
    (not a.crashed ∷ eqb a.timers.0 0 ∷ eqb a.link.state 0 ∷ not a.stored.some
    ∷ zeroed a.link.durable ∷ zeroed a.stored.durable ∷ [])
