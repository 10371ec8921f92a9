-- The cell of the envelope once, with the count in place of the one.
-- Assumes nothing.
use Rattle.net_cells.proofs.Laws.{with-count}
use Rattle.net_cells.proofs.cell_with.Goals as goal

pub returns : goal.returns
returns c = with-count c.args.x c.cell_of-w.result c.cell_of-w.ensures
