-- What reading a rule at a place answers, with its number and values, and what its parts do.
-- Assumes nothing.
use Rattle.std.specs.Prelude.{ℕ, ◌+◌, List, Option, Result}
use Rattle.types.specs.declared.Rule.{Rule}
use Rattle.types.specs.declared.RuleCommand.{RuleCommand}
use Rattle.types.specs.declared.Slot.{Slot}
use Rattle.layout.specs.Bits.{field_at}
use Rattle.layout.specs.Form.{Reached}
use Rattle.layout.specs.Read.{Reading}
use Rattle.rules.specs.Script.{flag}
use Rattle.script_places.specs.declared.BadAt.{BadAt}
use Rattle.script_places.specs.Views.{same, result_of, part_of}
use Rattle.script_places.specs.Says.{Said, result_says}

abbrev pub rule_read : Reading Rule → Result (Rule × ℕ) BadAt
rule_read = result_of same

abbrev pub rule_says : Result (Rule × ℕ) BadAt → Said Rule
rule_says = result_says same

-- ---- parts
abbrev pub command_part : Reached RuleCommand → Option (RuleCommand × ℕ)
command_part = part_of same

abbrev pub commands_part : Reached (List Slot) → Option (List Slot × ℕ)
commands_part = part_of same

-- A rule from its fields, the event of b bits, with these commands.
abbrev pub rule_with : List ℕ → ℕ → List Slot → ℕ → Rule
rule_with xs b cs n = record {
  event = field_at xs 0 b;
  state = field_at xs b 4;
  low = field_at xs (b + 4) 32;
  high = field_at xs (b + 36) 32;
  touched = flag (field_at xs (b + 68) 1);
  next = field_at xs (b + 69) 4;
  commands = cs;
  used = n;
}
