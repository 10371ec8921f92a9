-- The rules' network that the struct holds, the struct that holds one, and the answer struct of an outcome.
-- Assumes nothing.
use Rattle.std.specs.Prelude.{◌≤◌, ◌≡◌, Bool, true, List, length, take, leb}
use Rattle.lists.specs.Lists.{all, chain, pad}
use Rattle.types.specs.declared.Entry.{Entry}
use Rattle.types.specs.Capacities.{most_entries}
use Rattle.answers.specs.Answers.{Answer}
use Rattle.rules.specs.Outcome.{Outcome, base, handed_back}
use Rattle.rules.specs.Network.{Net}
use Rattle.rules.specs.WellFormed.{in_order}
pub use Rattle.net_cells.specs.Cells.{zero_entry}
use Rattle.net_network.specs.declared.Network.{Network}
use Rattle.net_network.specs.declared.Sent.{Sent}

-- The used entries.
abbrev pub entry_list : Network → List Entry
entry_list n = take n.used n.entries

abbrev pub net_view : Network → Net
net_view n = record { kind = n.kind; entries = entry_list n; last = n.last }

abbrev pub network_of : Net → Network
network_of m = record { kind = m.kind; entries = pad most_entries zero_entry m.entries; used = length m.entries; last = m.last }

-- The count fits, and the unused places are zero.
pub record NetLaid (n : Network) : Type 0 where
  pub fit : n.used ≤ most_entries
  pub rest : n.entries ≡ pad most_entries zero_entry (entry_list n)

abbrev pub count_fits : Entry → Bool
count_fits x = leb x.count base.room.copies

-- What the changes of a network ask: it is laid out, in the order of its kind, and no count is past the room. A well-formed network is so.
pub record NetReady (n : Network) : Type 0 where
  pub laid : NetLaid n
  pub order : chain (in_order n.kind) (entry_list n) ≡ true
  pub counts : all count_fits (entry_list n) ≡ true

-- An answer with a network.
abbrev pub back : Answer → Network → Sent
back a n = record { answer = a; network = n }

-- What an outcome leaves of the network n: a refusal hands it back.
abbrev pub sent_of : Network → Outcome Net → Sent
sent_of n m = handed_back back network_of n m
