-- `put_decimal` meets its contract: a number is written, or its width is counted.
-- Assumes nothing.
use Prim.Native.Nat.{ℕ, ◌+◌}
use mathlib.Core.Path.{ap, refl}
use Rattle.replay_lines.proofs.Laws.{written, measured}
use Rattle.replay_lines.proofs.put_decimal.Goals as goal

pub write_decimal-requires : goal.write_decimal-requires
write_decimal-requires c = c.requires.fits c.if-write.true

pub returns-then-write : goal.returns-then-write
returns-then-write c = written c.if-write.true c.write_decimal.ensures.next c.write_decimal.ensures.bytes

pub returns : goal.returns
returns c = measured c.if-write.false (ap (λ (k : ℕ). c.args.at + k) c.width.ensures.0) refl
