-- After i turns the first i numbers stand from place 8 on, and all else is zero.
-- Assumes nothing.
use Rattle.std.proofs.Common.{◌≡◌, take, ◌-◌, length}
use Rattle.link_layout.specs.Rows.{taken_of}
use Rattle.link_layout.proofs.taken_row.Given as goal

abbrev pub invariant-loop-i : goal.invariant-loop-i
invariant-loop-i l = l.row ≡ taken_of (take l.i l.n-items)

abbrev pub decreases-loop-i : goal.decreases-loop-i
decreases-loop-i l = length l.n-items - l.i
