-- What the search leaves open of `put_numbers`.
-- Assumes nothing.
use Rattle.std.proofs.Common.{arith}
use Rattle.replay_lines.proofs.Laws.{space-room, number-room, past-number, past-all}
use Rattle.replay_lines.proofs.put_numbers.Goals as goal

pub put_word-end-requires : goal.put_word-end-requires
put_word-end-requires c = space-room c.args.numbers.now c.loop-n.n-index (omega arith) c.loop-n.invariant

pub put_decimal-end-requires : goal.put_decimal-end-requires
put_decimal-end-requires c = number-room c.args.numbers.now c.loop-n.n-index (omega arith) c.loop-n.invariant c.put_word-end.ensures

pub loop-n-preserved : goal.loop-n-preserved
loop-n-preserved c =
    past-number c.args.numbers.now c.loop-n.n-index (omega arith) c.loop-n.invariant c.put_word-end.ensures c.put_decimal-end.ensures

pub put_word-requires : goal.put_word-requires
put_word-requires c =
    let l = past-all c.args.numbers.now c.loop-n.n-index (omega arith) c.loop-n.invariant in l.room

pub returns : goal.returns
returns c =
    let l = past-all c.args.numbers.now c.loop-n.n-index (omega arith) c.loop-n.invariant in l.completes _ _ c.put_word.ensures
