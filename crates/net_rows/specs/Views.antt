-- The rules' network that the first used cells of a slice are, and what a change in place leaves.
-- Assumes nothing.
use Rattle.std.specs.Prelude.{ℕ, ◌≤◌, ◌≡◌, true, List, map, length, take, get_or, set, leb, Option, Some}
use Rattle.lists.specs.Lists.{choose, all, chain, del}
use Rattle.types.specs.declared.Entry.{Entry}
use Rattle.types.specs.declared.Kind.{Kind}
use Rattle.types.specs.declared.Kind.TheVariants.{Ordered, UnorderedDuplicating, UnorderedNonDuplicating}
use Rattle.types.specs.declared.Envelope.{Envelope}
use Rattle.types.specs.Capacities.{most_copies}
use Rattle.answers.specs.Answers.{Done}
use Rattle.answers.specs.Answers.{answer_of}
use Rattle.rules.specs.Outcome.{Outcome, done, refused, Room}
use Rattle.rules.specs.Network.{Net, lowered, len}
use Rattle.rules.specs.WellFormed.{in_order}
use Rattle.net_cells.specs.Cells.{zero_entry, cell_of, entry_of}
use Rattle.net_rows.specs.declared.Sent.{Sent}

-- The used entries.
abbrev pub entry_list : List (List ℕ) → ℕ → List Entry
entry_list cs used = map entry_of (take used cs)

abbrev pub net_with : Kind → Option Envelope → List Entry → Net
net_with k last l = record { kind = k; entries = l; last = last }

-- The last message stands apart: no change of the cells reads it.
abbrev pub net_of : Kind → Option Envelope → List (List ℕ) → ℕ → Net
net_of k last cs used = net_with k last (entry_list cs used)

-- The last message after a Deliver.
abbrev pub last_after : Kind → Envelope → Option Envelope → Option Envelope
last_after Ordered e last = last
last_after UnorderedDuplicating e last = Some e
last_after UnorderedNonDuplicating e last = last

-- The room is the slice's.
abbrev pub room_of : List (List ℕ) → Room
room_of cs = record { entries = length cs; copies = most_copies }

-- The widest slice whose messages are counted.
abbrev pub most_room : ℕ
most_room = 65536

-- Each used cell is that of an entry, no count is past the room, and the messages are counted.
pub record NetLaid (cs : List (List ℕ)) (used n : ℕ) : Type 0 where
  pub fit : used ≤ length cs
  pub room : length cs ≤ most_room
  pub cells : take used cs ≡ map cell_of (entry_list cs used)
  pub counts : all (λ x. leb x.count most_copies) (entry_list cs used) ≡ true
  pub sum : n ≡ len (entry_list cs used)

-- What the changes of a network ask. A well-formed network is so.
pub record NetReady (k : Kind) (cs : List (List ℕ)) (used n : ℕ) : Type 0 where
  pub laid : NetLaid cs used n
  pub order : chain (in_order k) (entry_list cs used) ≡ true

-- The first used cells are these entries, and the messages are counted.
pub record Holds (cs : List (List ℕ)) (used n : ℕ) (l : List Entry) : Type 0 where
  pub fit : used ≤ length cs
  pub cells : take used cs ≡ map cell_of l
  pub entries : entry_list cs used ≡ l
  pub sum : n ≡ len l

-- What an outcome leaves: its entries, or, on a refusal, everything as it was.
abbrev pub Left : List (List ℕ) → ℕ → ℕ → Outcome Net → Sent → List (List ℕ) → Type 0
Left cs used n (done m) r cs' = (r.answer ≡ Done) × Holds cs' r.used r.len m.entries
Left cs used n (refused k) r cs' = (r.answer ≡ answer_of k) × (r.used ≡ used) × (r.len ≡ n) × (cs' ≡ cs)

pub record Changed (cs : List (List ℕ)) (used n : ℕ) (o : Outcome Net) (r : Sent) (cs' : List (List ℕ)) : Type 0 where
  pub room : length cs' ≡ length cs
  pub left : Left cs used n o r cs'

-- A change in place, whatever the last message is: what f makes of the view.
abbrev pub Makes : (Net → Outcome Net) → Kind → List (List ℕ) → ℕ → ℕ → Sent → List (List ℕ) → Type 0
Makes f k cs used n r cs' = (last : Option Envelope) → Changed cs used n (f (net_of k last cs used)) r cs'

-- One copy less at a place, and the same in place, whatever kind and last message are.
unfoldable pub taken_at : ℕ → List Entry → List Entry
taken_at at l = choose (leb (get_or l at zero_entry).count 1) (del at l) (set l at (lowered (get_or l at zero_entry)))

abbrev pub TakesOut : ℕ → List (List ℕ) → ℕ → ℕ → Sent → List (List ℕ) → Type 0
TakesOut at cs used n r cs' = (kind : Kind) (last : Option Envelope) → Changed cs used n (done (net_with kind last (taken_at at (entry_list cs used)))) r cs'
