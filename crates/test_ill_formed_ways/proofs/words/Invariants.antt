-- `words` stays within its array: the place of a number is always one of 48.
-- Assumes nothing.
use Rattle.std.proofs.Common.{◌<◌, ◌-◌, length}
use Rattle.test_ill_formed_ways.proofs.words.Given as goal

abbrev pub invariant-loop-b : goal.invariant-loop-b
invariant-loop-b l = l.place < 48

abbrev pub decreases-loop-b : goal.decreases-loop-b
decreases-loop-b l = length l.way - l.b-index
