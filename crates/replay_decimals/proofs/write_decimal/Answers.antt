-- What the search leaves open of `write_decimal`.
-- Assumes nothing.
use Rattle.std.proofs.Common.{arith}
use Rattle.replay_decimals.proofs.Laws.{room-of, in-place}
use Rattle.replay_decimals.proofs.write_decimal.Goals as goal

pub write_digits-requires : goal.write_digits-requires
write_digits-requires c =
    room-of c.args.at _ _ c.args.n (omega arith) (omega (arith, c.width.ensures.0)) (omega (arith, c.width.ensures.0)) (omega arith)

pub returns-clause-bytes : goal.returns-clause-bytes
returns-clause-bytes c =
    let w = c.write_digits.ensures in
    in-place c.args.at _ _ c.args.n _ _ (omega arith) (omega (arith, c.width.ensures.0)) w.start w.written w.before (omega arith)
