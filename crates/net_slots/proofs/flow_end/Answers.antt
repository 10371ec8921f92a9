-- The closure gives the test of each cell.
-- Assumes nothing.
use Rattle.std.proofs.Common.{rules}
use Rattle.net_slots.specs.Search.{up_to_flow}
use Rattle.net_slots.proofs.flow_end.Goals as goal

pub returns : goal.returns
returns c = c.halve.ensures.first (up_to_flow c.args.k) (λ x r e. search rules) c.requires
