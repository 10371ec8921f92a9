-- After i turns the array holds the cells of the first i entries, zero behind. Each can be read back, as its types say.
-- Assumes nothing.
use Rattle.std.proofs.Common.{◌≡◌, map, take, ◌-◌, length}
use Rattle.lists.specs.Lists.{pad}
use Rattle.types.specs.Capacities.{most_entries}
use Rattle.net_cells.specs.Cells.{cell_of, entry_of, zero_cell}
use Rattle.net_layout.proofs.cells_of.Given as goal

abbrev pub invariant-loop-i : goal.invariant-loop-i
invariant-loop-i l =
    (l.cs ≡ pad most_entries zero_cell (map cell_of (take l.i l.x-items)))
    × (map entry_of (map cell_of (take l.i l.x-items)) ≡ take l.i l.x-items)

abbrev pub decreases-loop-i : goal.decreases-loop-i
decreases-loop-i l = length l.x-items - l.i
