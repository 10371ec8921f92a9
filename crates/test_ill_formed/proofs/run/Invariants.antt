-- `run` ends: each line takes a byte or more of what is left.
-- Assumes nothing.
use Rattle.std.proofs.Common.{length}
use Rattle.test_ill_formed.proofs.run.Given as goal

abbrev pub decreases-loop-rest : goal.decreases-loop-rest
decreases-loop-rest g l = length l.rest
