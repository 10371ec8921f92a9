-- What cells are read back as.
-- Assumes nothing.
use Rattle.std.specs.Prelude.{ℕ, List, Option}
use Rattle.lists.specs.Lists.{pad}
use Rattle.types.specs.declared.Kind.{Kind}
use Rattle.types.specs.declared.Envelope.{Envelope}
use Rattle.types.specs.Capacities.{most_entries}
use Rattle.net_cells.specs.Cells.{zero_entry}
use Rattle.net_rows.specs.Views as rows
use Rattle.net_network.specs.declared.Network.{Network}

-- The network that the used cells are.
abbrev pub read_back : Kind → List (List ℕ) → ℕ → Option Envelope → Network
read_back k cs used last = record { kind = k; entries = pad most_entries zero_entry (rows.entry_list cs used); used = used; last = last }
