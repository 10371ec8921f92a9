-- A full slice refuses. Else the cell goes in, and one message more is counted.
-- Assumes nothing.
use native.Mathlib.Omega.{arith}
use Rattle.net_rows.proofs.Laws.{insert-full, insert-done, len-small}
use Rattle.net_rows.proofs.insert_cell.Goals as goal

pub returns-then-c-used : goal.returns-then-c-used
returns-then-c-used c =
    insert-full c.requires.0 c.requires.2 c.args.at c.requires.1 c.if-c-used.true

pub overflow_add-result-2 : goal.overflow_add-result-2
overflow_add-result-2 c =
    omega (arith, len-small c.requires.0)

pub returns : goal.returns
returns c =
    insert-done c.requires.0 c.requires.2 c.args.at c.requires.1 (omega arith) c.insert_at.new.c c.insert_at.ensures
