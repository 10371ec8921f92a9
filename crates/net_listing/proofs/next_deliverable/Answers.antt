-- The listing is taken of the used entries, from the place on.
-- Assumes nothing.
use Rattle.net_listing.specs.Listing.{offered_next}
use Rattle.net_listing.proofs.next_deliverable.Goals as goal

pub returns : goal.returns
unfolding offered_next
returns c = rw (c.offered_from.ensures, c.in_use.ensures)
