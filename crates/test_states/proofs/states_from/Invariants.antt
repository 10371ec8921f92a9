-- The place goes up by each action that is read, and what is put stays within the buffer.
use Prim.Native.Nat.{◌-◌, ◌≤◌}
use mathlib.Core.Path.{◌≡◌}
use lib.ListN.{length}
use Rattle.test_states.proofs.states_from.Given as goal

abbrev pub invariant-loop-action : goal.invariant-loop-action
invariant-loop-action l = (length l.out ≡ length l.initial.out) × (l.end ≤ length l.out)

abbrev pub decreases-loop-action : goal.decreases-loop-action
decreases-loop-action l = length l.script - l.at
