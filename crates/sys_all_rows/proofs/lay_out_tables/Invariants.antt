-- Those before a place are laid out, and each turn lays out the one at it.
use Rattle.std.proofs.Common.{◌-◌}
use Rattle.sys_all_rows.specs.Views.{TablesLaid}
use Rattle.sys_all_rows.proofs.lay_out_tables.Given as goal

abbrev pub invariant-loop-i : goal.invariant-loop-i
invariant-loop-i l = TablesLaid l.tables l.i l.rows

abbrev pub decreases-loop-i : goal.decreases-loop-i
decreases-loop-i l = l.count - l.i
