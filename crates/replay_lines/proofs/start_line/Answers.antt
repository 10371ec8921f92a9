-- `start_line` is short: a word of up to 5 bytes, and up to three numbers.
-- Assumes nothing.
use Rattle.std.proofs.Common.{rules, arith}
use Rattle.rules.specs.Program.{start_word}
use Rattle.replay_lines.proofs.Laws.{length-line}
use Rattle.replay_lines.proofs.start_line.Goals as goal

pub put_line-requires-clause-short : goal.put_line-requires-clause-short
put_line-requires-clause-short c = length-line start_word _ (search rules, (search rules, tt)) (omega arith)
