-- The rules that a table holds, and the whole test of a table.
-- Assumes nothing.
use Rattle.std.specs.Prelude.{ℕ, Bool, false, not, List, [], ◌∷◌, length, take, drop, replicate, leb, eqb}
use Rattle.lists.specs.Lists.{all, every, pad}
use Rattle.types.specs.Capacities.{most_commands, most_rules, last_state}
use Rattle.types.specs.declared.Slot.{Slot}
use Rattle.types.specs.declared.Rule.{Rule}
use Rattle.rules.specs.Inner.{zero_slot}
use Rattle.rules.specs.WellFormed.{command_ok, unused, sound}
use Rattle.link_inner.specs.declared.Table.{Table}

abbrev pub rules_of : Table → List Rule
rules_of t = take t.used t.rules

-- ---- a place for a command that is used, in a rule for this event
abbrev pub slot_ok : ℕ → Slot → Bool
slot_ok event s = command_ok event s.command

-- ---- a place for a rule
-- The numbers are in script range, and low is at most high.
abbrev pub range_tests : Rule → List Bool
range_tests r = leb r.event 3 ∷ leb r.state last_state ∷ leb r.next last_state ∷ leb r.used most_commands ∷ leb r.low r.high ∷ []

unfoldable pub ranges : Rule → Bool
ranges r = every (range_tests r)

abbrev pub zero_rule : Rule
zero_rule = record {
  event = 0;
  state = 0;
  low = 0;
  high = 0;
  touched = false;
  next = 0;
  commands = replicate most_commands zero_slot;
  used = 0;
}

-- The struct of a list of rules; places that are not used hold the zero rule.
abbrev pub table_as : List Rule → Table
table_as rs = record { rules = pad most_rules zero_rule rs; used = length rs }

abbrev pub zero_table : Table
zero_table = table_as []

-- A rule that is not used is all zero.
unfoldable pub blank_rule : Rule → Bool
blank_rule r = every
    (eqb r.event 0 ∷ eqb r.state 0 ∷ eqb r.low 0 ∷ eqb r.high 0 ∷ not r.touched
    ∷ eqb r.next 0 ∷ eqb r.used 0 ∷ all unused r.commands ∷ [])

-- The count fits, the places that are not used are zero, and the rules are sound.
unfoldable pub table_ok : Table → Bool
table_ok t = every (leb t.used most_rules ∷ all blank_rule (drop t.used t.rules) ∷ sound (rules_of t) ∷ [])
