-- Each turn reads one more; a bad one ends it at its own place.
use Rattle.std.proofs.Common.{◌-◌}
use Rattle.script_opening.proofs.Loops.{Reads}
use Rattle.script_opening.proofs.read_many.Given as goal

abbrev pub invariant-loop-i : goal.invariant-loop-i
invariant-loop-i g l = Reads g.row.N l.fn.blank g.reader l.script l.at l.count l.list l.next l.i

abbrev pub decreases-loop-i : goal.decreases-loop-i
decreases-loop-i g l = l.count - l.i
