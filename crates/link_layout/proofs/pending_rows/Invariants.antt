-- After i turns the rows up to i are the first i records, each as its words, and the others are zero.
-- Assumes nothing.
use Rattle.std.proofs.Common.{◌≡◌, ◌-◌, map, take, length}
use Rattle.lists.specs.Lists.{pad}
use Rattle.types.specs.Capacities.{most_pending}
use Rattle.link_rows.specs.Rows.{Sendable}
use Rattle.link_layout.specs.Rows.{record_of, no_record}
use Rattle.link_layout.proofs.pending_rows.Given as goal

abbrev pub invariant-loop-i : goal.invariant-loop-i
invariant-loop-i l = (l.rows ≡ pad most_pending no_record (map record_of (take l.i l.q-items))) × Sendable l.rows l.i

abbrev pub decreases-loop-i : goal.decreases-loop-i
decreases-loop-i l = length l.q-items - l.i
