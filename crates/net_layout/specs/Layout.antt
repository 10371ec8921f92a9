-- What it is for entries to be laid out as cells, and for cells to be read back.
-- Assumes nothing.
use Rattle.std.specs.Prelude.{◌≡◌, true, List, map, ℕ, ◌≤◌, length, take, leb}
use Rattle.lists.specs.Lists.{all, pad}
use Rattle.types.specs.declared.Entry.{Entry}
use Rattle.types.specs.Capacities.{most_entries, most_copies}
use Rattle.net_cells.specs.Cells.{cell_of, entry_of, zero_cell}

-- The cells are those of the entries, zero behind, and are read back.
pub record LaidOut (l : List Entry) (cs : List (List ℕ)) : Type 0 where
  pub cells : cs ≡ pad most_entries zero_cell (map cell_of l)
  pub back : map entry_of (map cell_of l) ≡ l

-- The used cells are there, and each count is in the range of its type.
pub record Readable (cs : List (List ℕ)) (used : ℕ) : Type 0 where
  pub fit : used ≤ length cs
  pub few : used ≤ most_entries
  pub counts : all (λ x. leb x.count most_copies) (map entry_of (take used cs)) ≡ true
