-- `check_list` meets its contract: what the whole list tells is what is left of it tells after what was counted.
-- Assumes nothing.
use Rattle.std.proofs.Common.{◌≡◌, ◌+◌, ◌≤◌, length}
use Rattle.test_list_check.specs.List.{walk, tallied}
use Rattle.test_list_check.proofs.check_list.Given as goal

abbrev pub invariant-loop-rest : goal.invariant-loop-rest
invariant-loop-rest l = (length l.rest + l.t.scripts ≤ length l.list) × (l.t.differ ≤ l.t.scripts) × (tallied l.list ≡ walk 0 l.rest l.t)

abbrev pub decreases-loop-rest : goal.decreases-loop-rest
decreases-loop-rest l = length l.rest
