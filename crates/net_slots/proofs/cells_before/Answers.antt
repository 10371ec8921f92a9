-- The closure gives the test of each cell.
-- Assumes nothing.
use Rattle.std.proofs.Common.{rules}
use Rattle.net_slots.specs.Search.{stands_before}
use Rattle.net_slots.proofs.cells_before.Goals as goal

pub returns : goal.returns
returns c = c.halve.ensures.first (stands_before c.args.k) (λ x r e. search rules) c.requires
