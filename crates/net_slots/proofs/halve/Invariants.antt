-- All before low pass, and what stands at high fails. So where they meet is the first that fails.
-- Assumes nothing.
use Rattle.std.proofs.Common.{◌≡◌, ℕ, Bool, false, List, [], ◌-◌, ◌<◌, ◌≤◌, get_or, length}
use Rattle.std.specs.Fn.{FnReturnsAt}
use Rattle.net_slots.specs.Search.{Once}
use Rattle.net_slots.proofs.Laws.{Passed}
use Rattle.net_slots.proofs.halve.Given as goal

abbrev pub invariant-loop-low : goal.invariant-loop-low
invariant-loop-low g l =
    (l.low ≤ l.high) × (l.high ≤ length l.cells)
    × ((p : List ℕ → Bool) → ((x : List ℕ) (r : Bool) → FnReturnsAt g.F.Fn l.passes x r → r ≡ p x) → Once p (length l.cells) l.cells
    → Passed p l.low l.cells × (l.high < length l.cells → p (get_or l.cells l.high []) ≡ false))

abbrev pub decreases-loop-low : goal.decreases-loop-low
decreases-loop-low g l = l.high - l.low
