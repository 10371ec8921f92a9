-- The number of each answer that tells what reading found, and its values.
-- Assumes nothing.
use Rattle.std.specs.Prelude.{ℕ, [], ◌∷◌, Option, Some, None, Result, Ok, Err}
use Rattle.types.specs.declared.Action.{Action}
use Rattle.types.specs.declared.Envelope.{Envelope}
use Rattle.rules.specs.Script.{Item, end, item}
use Rattle.rules.specs.Script as script
use Rattle.script_places.specs.declared.BadAt.{BadAt}
use Rattle.script_places.specs.Views.{same}
use Rattle.script_places.specs.Says.{Said, said, result_says}
use Rattle.script_records.specs.declared.Header.{Header}

abbrev pub header_says : Result (Header × ℕ) BadAt → Said script.Header
header_says (Ok (h, p)) = said 0 (record { version = h.version; kind = h.kind; actors = h.actors } ∷ []) (p ∷ [])
header_says (Err e) = said 11 [] (e.0 ∷ [])

abbrev pub count_says : Result (ℕ × ℕ) BadAt → Said ℕ
count_says = result_says same

abbrev pub envelope_says : Result (Envelope × ℕ) BadAt → Said Envelope
envelope_says = result_says same

abbrev pub action_says : Result (Option Action × ℕ) BadAt → Said Item
action_says (Ok (Some a, p)) = said 0 (item a ∷ []) (p ∷ [])
action_says (Ok (None, p)) = said 0 (end ∷ []) (p ∷ [])
action_says (Err e) = said 11 [] (e.0 ∷ [])
