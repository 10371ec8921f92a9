-- The rows before place i are laid out, and the others are zero.
use Rattle.std.proofs.Common.{◌-◌, length}
use Rattle.link_table_rows.proofs.Tables.{Filled}
use Rattle.link_table_rows.proofs.rows_of.Given as goal

abbrev pub invariant-loop-i : goal.invariant-loop-i
invariant-loop-i l = Filled l.fn.t.rules l.i l.out

abbrev pub decreases-loop-i : goal.decreases-loop-i
decreases-loop-i l = length l.r-items - l.i
