-- What is read many times is a rule.
use Rattle.layout.specs.Read.{one}
use Rattle.rules.specs.Script.{rule_form}
use Rattle.script_opening.specs.contracts.fn.read_table.read_many as closure
use Rattle.script_opening.proofs.read_table.Given as goal

abbrev pub ghost-read_many : goal.ghost-read_many
ghost-read_many a = one (rule_form (closure.captures a.read).f)
