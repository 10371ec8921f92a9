-- What is left of the used entries is what the listing is taken of.
-- Assumes nothing.
use Rattle.net_listing.specs.Listing.{listed_next}
use Rattle.net_listing.proofs.next_listed.Goals as goal

pub returns : goal.returns
unfolding listed_next
returns c = rw (c.listed_from.ensures, c.in_use.ensures)
