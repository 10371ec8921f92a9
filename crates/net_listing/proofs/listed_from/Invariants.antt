-- Each turn passes an entry whose copies were all listed, so that the answer stays the same.
-- Assumes nothing.
use Rattle.std.proofs.Common.{◌≡◌, ◌+◌, drop, ◌-◌, length}
use Rattle.net_listing.specs.Listing.{listed_from}
use Rattle.net_listing.proofs.listed_from.Given as goal

abbrev pub invariant-loop-i : goal.invariant-loop-i
invariant-loop-i l = listed_from l.at l.copy l.left ≡ listed_from (l.at + l.i) l.k (drop l.i l.left)

abbrev pub decreases-loop-i : goal.decreases-loop-i
decreases-loop-i l = length l.left - l.i
