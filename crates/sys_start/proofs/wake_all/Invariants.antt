-- `wake_all` meets its contract. The rest from each actor on gives what all give from the first.
-- Assumes nothing.
use Rattle.std.proofs.Common.{◌-◌}
use mathlib.Core.Path.{◌≡◌}
use lib.ListN.{length}
use Rattle.types.specs.Capacities.{most_actors}
use Rattle.sys_start.proofs.Wakes.{Waking}
use Rattle.sys_start.proofs.wake_all.Given as goal

abbrev pub invariant-loop-at : goal.invariant-loop-at
invariant-loop-at l =
    (l.net.kind ≡ l.initial.net.kind) × (length l.actors ≡ most_actors)
    × Waking l.initial.net.kind l.initial.net.cells l.initial.net.used l.count l.tables l.net.cells l.net.used l.net.len l.actors l.at

abbrev pub decreases-loop-at : goal.decreases-loop-at
decreases-loop-at l = l.count - l.at
