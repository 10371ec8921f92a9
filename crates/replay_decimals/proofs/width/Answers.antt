-- What the search leaves open of `width`.
-- Assumes nothing.
use Rattle.std.proofs.Common.{sym, arith}
use Rattle.replay_decimals.proofs.Laws.{length-small, width_of}
use Rattle.replay_decimals.proofs.width.Goals as goal

pub returns-then-n-lt10 : goal.returns-then-n-lt10
returns-then-n-lt10 c = (sym (length-small c.args.n c.if-n-lt10.true), omega arith)

pub returns : goal.returns
returns c =
    let o = c.checked_ilog10 in
    rw c.unwrap_or.ensures (width_of c.args.n o.result (omega arith) o.ensures.none o.ensures.power_le o.ensures.next_power_gt o.ensures.bound (omega arith))
