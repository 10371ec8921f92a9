-- `link_notes::note` meets its contract. What was noted so far, and what is left to note, come to what all of them make.
-- Assumes nothing.
use Rattle.std.proofs.Common.{◌-◌, get_or}
use mathlib.Core.Path.{◌≡◌}
use lib.ListN.{length, drop}
use Rattle.link_rows.specs.Rows.{row_size}
use Rattle.link_tables.specs.Rows.{orders}
use Rattle.link_notes.proofs.Laws.{Along}
use Rattle.link_notes.proofs.note.Given as goal

abbrev pub invariant-loop-i : goal.invariant-loop-i
invariant-loop-i l =
    (length l.live ≡ row_size) × (length l.pend ≡ length l.initial.pend)
    × Along (orders l.row l.source l.value) l.initial.live l.initial.pend l.live l.pend (drop l.i (orders l.row l.source l.value))

abbrev pub decreases-loop-i : goal.decreases-loop-i
decreases-loop-i l = get_or l.row 5 0 - l.i
