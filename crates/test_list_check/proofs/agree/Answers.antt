-- `agree` meets its contract: what the replay left at the start of the buffer is the rules' output.
-- Assumes nothing.
use Rattle.test_list_check.proofs.Laws.{too_long, compared}
use Rattle.test_list_check.proofs.agree.Goals as goal

pub returns-then-size-gt-LARGE : goal.returns-then-size-gt-LARGE
returns-then-size-gt-LARGE c = too_long _ _ c.replay-size.ensures.size c.if-size-gt-LARGE.true

pub returns : goal.returns
returns c =
    compared _ _ c.room-out.result _ c.room-out.ensures c.replay-size.ensures.size
    c.if-size-gt-LARGE.false c.replay-size.ensures.bytes c.eq.ensures
