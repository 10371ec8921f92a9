-- What is the first place of the search is the first of the definition.
-- Assumes nothing.
use Rattle.std.proofs.Common.{sym}
use Rattle.net_listing.proofs.Loops.{offered-first, offered-none}
use Rattle.net_listing.proofs.offered_from.Goals as goal

pub returns-in_err-i : goal.returns-in_err-i
returns-in_err-i c = rw c.from_residual.ensures (sym (offered-none c.args.kind c.args.entries.now c.args.at c.in_err-i.ensures))

pub returns : goal.returns
returns c = sym (offered-first c.args.kind c.args.entries.now c.args.at c.in_ok-i.i c.in_ok-i.ensures)
