-- The step of any content, what a step on rows is given and leaves of network and actor, and both put back.
-- Assumes nothing.
use Rattle.std.specs.Prelude.{ℕ, ◌≤◌, ◌≡◌, true, false, length, set}
use Rattle.types.specs.Capacities.{most_actors, last_state}
use Rattle.lists.specs.Lists.{choose}
use Rattle.types.specs.declared.Action.{Action}
use Rattle.answers.specs.Answers.{Done}
use Rattle.answers.specs.Answers.{answer_number, is_done}
use Rattle.rules.specs.Outcome.{Outcome, done, refused, guard, base}
use Rattle.rules.specs.System.{Sys, systems, act}
use Rattle.rules.specs.Run.{step}
use Rattle.net_network.specs.declared.Network.{Network}
use Rattle.net_network.specs.Views.{net_view, NetLaid, NetReady}
use Rattle.link_inner.specs.declared.Table.{Table}
use Rattle.link_inner.specs.Views.{table_ok}
use Rattle.link_durable.specs.Views.{durable_laid, stored_laid}
use Rattle.sys_actor.specs.declared.Actor.{Actor}
use Rattle.sys_actor.specs.Views.{ActorLaid}
use Rattle.sys_seat.specs.Seat.{Around, holding}
use Rattle.sys_act.specs.Seats.{seat_of}
use Rattle.sys_system.specs.declared.System.{System}
use Rattle.sys_system.specs.Views.{seated, sys_view, system_laid}
use Rattle.sys_answered.specs.declared.Answered.{Answered}
use Rattle.sys_step.specs.declared.Touched.{Touched}

-- 9 for a struct that is not laid out, and else as the rules step.
unfoldable pub step_of : System → Action → Outcome Sys
step_of s a = guard (system_laid s) 9 (systems (step base (sys_view s) a))

-- ---- network and actor alone
-- They can be laid out as rows.
pub record Touchable (count : ℕ) (n : Network) (b : Actor) (t : Table) : Type 0 where
  pub few : count ≤ most_actors
  pub net : NetReady n
  pub link : durable_laid b.link.durable ≡ true
  pub stored : stored_laid b.stored ≡ true
  pub state : b.link.state ≤ last_state
  pub table : table_ok t ≡ true

-- The rules' action on network n and actor b, with the rules of table t, in a system around the seat.
abbrev pub acting : (count : ℕ) (a : Action) → Around (seat_of count a) → Network → Actor → Table → Outcome Sys
acting count a hall n b t = systems (act base (holding (seat_of count a) hall (net_view n) (seated t b)) a)

-- Done: every system that held the two holds those of r as the rules say; else the answer is the rules'.
pub record Touches (count : ℕ) (a : Action) (n : Network) (b : Actor) (t : Table) (r : Touched) : Type 0 where
  pub network : NetLaid r.network
  pub actor : ActorLaid r.actor
  pub runs : is_done r.answer ≡ true → (hall : Around (seat_of count a)) → length hall.sys.actors ≡ count
      → acting count a hall n b t ≡ done (holding (seat_of count a) hall (net_view r.network) (seated t r.actor))
  pub stops : is_done r.answer ≡ false → (hall : Around (seat_of count a)) → length hall.sys.actors ≡ count
      → acting count a hall n b t ≡ refused (answer_number r.answer)

-- ---- put back at a place
abbrev pub put_touched : System → ℕ → Touched → Answered
put_touched s i x = choose (is_done x.answer)
    (record { answer = Done; system = record { count = s.count; network = x.network; actors = set s.actors i x.actor; tables = s.tables } })
    (record { answer = x.answer; system = s })
