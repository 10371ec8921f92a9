-- `count` meets its contract: the first that differs stays, and else is this one.
-- Assumes nothing.
use Rattle.test_list_check.proofs.Laws.{counted-right, counted-wrong}
use Rattle.test_list_check.proofs.count.Goals as goal

pub returns-then-right : goal.returns-then-right
returns-then-right c = counted-right c.args.t c.if-right.true

pub returns : goal.returns
returns c = counted-wrong c.args.t c.if-right.false c.or.ensures
