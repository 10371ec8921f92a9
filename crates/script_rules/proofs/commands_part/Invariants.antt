-- After i turns the first i slots hold the commands that the form finds, and the others are zero. Where one command is stuck, all of them are.
use Rattle.std.proofs.Common.{◌-◌}
use Rattle.script_rules.proofs.Turns.{Turn}
use Rattle.script_rules.proofs.commands_part.Given as goal

abbrev pub invariant-loop-i : goal.invariant-loop-i
invariant-loop-i l = Turn l.s l.at l.count l.f l.commands l.end l.i

abbrev pub decreases-loop-i : goal.decreases-loop-i
decreases-loop-i l = l.count - l.i
