-- What reading a record at a place answers, and what the parts of a record do.
-- Assumes nothing.
use Rattle.std.specs.Prelude.{ℕ, Option, Some, None, Result, Ok, Err}
use Rattle.types.specs.declared.Action.{Action}
use Rattle.types.specs.declared.Envelope.{Envelope}
use Rattle.types.specs.declared.Message.{Message}
use Rattle.layout.specs.Form.{Reached, reached, stuck}
use Rattle.layout.specs.Read.{Reading}
use Rattle.rules.specs.Script.{Item, end, item}
use Rattle.rules.specs.Script as script
use Rattle.script_places.specs.declared.BadAt.{BadAt}
use Rattle.script_places.specs.Views.{same, result_of, part_of}
use Rattle.script_records.specs.declared.Header.{Header}
use Rattle.script_records.specs.declared.ActionPart.{ActionPart}
use Rattle.script_records.specs.declared.ActionPart.TheVariants as actions

-- ---- records
abbrev pub header_held : script.Header → Header
header_held h = record { version = h.version; kind = h.kind; actors = h.actors }

abbrev pub header_read : Reading script.Header → Result (Header × ℕ) BadAt
header_read = result_of header_held

abbrev pub count_read : Reading ℕ → Result (ℕ × ℕ) BadAt
count_read = result_of same

abbrev pub envelope_read : Reading Envelope → Result (Envelope × ℕ) BadAt
envelope_read = result_of same

-- The end is no action.
abbrev pub action_held : Item → Option Action
action_held end = None
action_held (item a) = Some a

abbrev pub action_read : Reading Item → Result (Option Action × ℕ) BadAt
action_read = result_of action_held

-- How far an action at place 0 goes.
abbrev pub action_size : Result (Option Action × ℕ) BadAt → ℕ
action_size (Ok (a, n)) = n
action_size (Err e) = 0

-- ---- parts
abbrev pub message_part : Reached Message → Option (Message × ℕ)
message_part = part_of same

abbrev pub envelope_part : Reached Envelope → Option (Envelope × ℕ)
envelope_part = part_of same

abbrev pub action_part : Reached Item → ActionPart
action_part (reached end n) = actions.End n
action_part (reached (item a) n) = actions.Act a n
action_part stuck = actions.Stuck

abbrev pub action_end : ActionPart → ℕ
action_end (actions.Act a n) = n
action_end (actions.End n) = n
action_end actions.Stuck = 0
