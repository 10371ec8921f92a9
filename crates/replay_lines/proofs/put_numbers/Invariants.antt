-- `put_numbers` meets its contract: what is left to put completes the whole.
-- Assumes nothing.
use Rattle.std.proofs.Common.{drop, ◌-◌, length}
use Rattle.rules.specs.Program.{spaced}
use Rattle.replay_lines.proofs.Laws.{Left}
use Rattle.replay_lines.proofs.put_numbers.Given as goal

abbrev pub invariant-loop-n : goal.invariant-loop-n
invariant-loop-n l = Left l.write l.at (spaced l.numbers) l.initial.out l.end (spaced (drop l.n-index l.numbers)) l.out

abbrev pub decreases-loop-n : goal.decreases-loop-n
decreases-loop-n l = length l.numbers - l.n-index
