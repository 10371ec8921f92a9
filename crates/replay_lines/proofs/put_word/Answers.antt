-- `put_word` meets its contract: the word is copied, or its length is counted.
-- Assumes nothing.
use Rattle.std.proofs.Common.{refl}
use Rattle.replay_lines.proofs.Laws.{copied, measured}
use Rattle.replay_lines.proofs.put_word.Goals as goal

pub returns-then-write : goal.returns-then-write
returns-then-write c = copied c.args.at c.args.word.now _ _ c.if-write.true c.copy_from_slice.ensures.after

pub returns-else-write : goal.returns-else-write
returns-else-write c = measured c.if-write.false refl refl
