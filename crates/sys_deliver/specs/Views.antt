-- A message handed to a live actor, and the rule that takes it.
-- Assumes nothing.
use Rattle.std.specs.Prelude.{ℕ, Bool, ◌||◌, List, leb, Option}
use Rattle.lists.specs.Lists.{choose}
use Rattle.types.specs.Capacities.{most_pending}
use Rattle.types.specs.declared.Id.{Id}
use Rattle.types.specs.declared.Kind.{Kind}
use Rattle.types.specs.declared.Rule.{Rule}
use Rattle.types.specs.declared.Envelope.{Envelope}
use Rattle.types.specs.declared.Message.{Message}
use Rattle.rules.specs.Outcome.{Outcome, bind}
use Rattle.rules.specs.Inner.{reply, ignored}
use Rattle.rules.specs.Network.{on_deliver}
use Rattle.rules.specs.Link.{on_msg}
use Rattle.rules.specs.System.{Sys, with_link, run_commands}
use Rattle.net_rows.specs.Views.{net_of, room_of}
use Rattle.link_tables.specs.Rows.{deciding_of}
use Rattle.sys_seat.specs.Seat.{Around, holding}
use Rattle.sys_reacts.specs.Views.{limits_of}
use Rattle.sys_moves.specs.Views.{Rows, actor_at}

-- Out of the network, to the link's handler, whose commands run with its link in place.
abbrev pub handed_to : Kind → (e : Envelope) → Message → ℕ → Rows → List Rule → Around e.dst → Option Envelope → Outcome Sys
handed_to kind e m used x rs hall last = bind (on_deliver e (net_of kind last x.cells used)) (λ n.
    bind (on_msg (limits_of most_pending) e.dst rs (actor_at rs x).link e.src m) (λ d.
    run_commands (room_of x.cells) e.dst d.commands (holding e.dst hall n (with_link d.link (actor_at rs x)))))

-- A number is acked and nothing more: it is not newer than the last one taken, or the inner actor ignores its payload.
abbrev pub only_acked : ℕ → ℕ → List Rule → ℕ → Id → ℕ → Bool
only_acked number last rs state source payload = leb number last || ignored (reply rs 2 state source payload)

-- The place of the rule that takes it, or the count of rules where it is only acked.
abbrev pub taker_of : ℕ → ℕ → ℕ → Id → ℕ → List (List ℕ) → ℕ → ℕ
taker_of number last state source payload t rules = choose (leb number last) rules (deciding_of 2 state source payload t rules)
