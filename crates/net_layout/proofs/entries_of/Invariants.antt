-- After i turns the array holds the entries of the first i cells, zero behind. No count is past its type.
-- Assumes nothing.
use Rattle.std.proofs.Common.{◌≡◌, map, take, ◌-◌, length}
use Rattle.lists.specs.Lists.{pad}
use Rattle.types.specs.Capacities.{most_entries}
use Rattle.net_cells.specs.Cells.{entry_of, zero_entry}
use Rattle.net_layout.proofs.entries_of.Given as goal

abbrev pub invariant-loop-i : goal.invariant-loop-i
invariant-loop-i l = l.es ≡ pad most_entries zero_entry (map entry_of (take l.i l.x-items))

abbrev pub decreases-loop-i : goal.decreases-loop-i
decreases-loop-i l = length l.x-items - l.i
