-- A count above the length names the whole list.
-- Assumes nothing.
use Rattle.net_listing.proofs.Loops.{take-min}
use Rattle.net_listing.proofs.in_use.Goals as goal

pub returns : goal.returns
returns c = rw c.min-end.ensures (take-min c.args.entries.now c.args.used)
