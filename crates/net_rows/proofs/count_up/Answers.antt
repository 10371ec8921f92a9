-- The count alone decides: past the most copies it is refused, else one message more is counted.
-- Assumes nothing.
use native.Mathlib.Omega.{arith}
use Rattle.net_rows.proofs.Laws.{count-full, count-done, len-small}
use Rattle.net_rows.proofs.count_up.Goals as goal

pub returns-then-most-n : goal.returns-then-most-n
returns-then-most-n c =
    count-full c.requires.0 c.args.at c.requires.1 c.if-most-n.true

pub overflow_add-result : goal.overflow_add-result
overflow_add-result c =
    omega (arith, len-small c.requires.0)

pub returns : goal.returns
returns c =
    count-done c.requires.0 c.args.at c.requires.1 c.if-most-n.false
