-- The last copy takes the cell along. Else the count is one less, and so is that of the messages.
-- Assumes nothing.
use native.Mathlib.Omega.{arith}
use Rattle.net_rows.proofs.Laws.{take_last, take_more, len_holds}
use Rattle.net_rows.proofs.take_out.Goals as goal

pub overflow_sub-result-then-n-le1 : goal.overflow_sub-result-then-n-le1
overflow_sub-result-then-n-le1 c =
    len_holds c.requires.0 c.args.at c.requires.1

pub returns-then-n-le1 : goal.returns-then-n-le1
returns-then-n-le1 c =
    take_last c.requires.0 c.args.at c.requires.1 (omega arith) c.remove_at.new.c c.remove_at.ensures

pub overflow_sub-result-2 : goal.overflow_sub-result-2
overflow_sub-result-2 c =
    omega (arith, len_holds c.requires.0 c.args.at c.requires.1)

pub returns : goal.returns
returns c =
    take_more c.requires.0 c.args.at c.requires.1 c.if-n-le1.false
