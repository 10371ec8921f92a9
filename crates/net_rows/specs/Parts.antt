-- What the inner functions are held to. No public contract cites this file.
-- Assumes nothing.
use Rattle.std.specs.Prelude.{ℕ, ◌≡◌, List, get_or, set, Option}
use Rattle.types.specs.declared.Envelope.{Envelope}
use Rattle.types.specs.declared.Entry.{Entry}
use Rattle.answers.specs.Answers.{Answer}
use Rattle.answers.specs.Answers.{Done, Absent}
use Rattle.types.specs.declared.Kind.{Kind}
use Rattle.types.specs.declared.Kind.TheVariants.{Ordered, UnorderedDuplicating, UnorderedNonDuplicating}
use Rattle.rules.specs.Outcome.{Outcome, done, guard, Room}
use Rattle.rules.specs.Network.{Net, single, again, fits}
use Rattle.net_rows.specs.declared.Sent.{Sent}
use Rattle.net_rows.specs.Views.{entry_list, net_with, room_of, Changed}
use Rattle.net_cells.specs.Cells.{zero_entry, cell_of, entry_of}

-- The envelope that a cell is, and a cell that is an envelope once.
abbrev pub envelope_in : List ℕ → Envelope
envelope_in k = (entry_of k).envelope

abbrev pub Alone : List ℕ → Type 0
Alone k = k ≡ cell_of (single (envelope_in k))

abbrev pub fitting : Room → Kind → Option Envelope → List Entry → Outcome Net
fitting c k last l = guard (fits c (net_with k last l)) 8 (done (net_with k last l))

-- One copy more at a place.
unfoldable pub counted_at : ℕ → List Entry → List Entry
counted_at at l = set l at (again UnorderedNonDuplicating (get_or l at zero_entry))

-- Other entries, if they fit, whatever kind and last message are.
abbrev pub Enters : (List Entry → List Entry) → List (List ℕ) → ℕ → ℕ → Sent → List (List ℕ) → Type 0
Enters f cs used n r cs' = (kind : Kind) (last : Option Envelope) → Changed cs used n (fitting (room_of cs) kind last (f (entry_list cs used))) r cs'

-- The answer to a Drop of an absent message.
abbrev pub absent_of : Kind → Answer
absent_of Ordered = Absent
absent_of UnorderedDuplicating = Done
absent_of UnorderedNonDuplicating = Absent
