-- `fill` meets its contract. The rest from each place on gives what all give from the start.
-- Assumes nothing.
use Rattle.std.proofs.Common.{◌-◌}
use mathlib.Core.Path.{◌≡◌}
use Rattle.sys_start.proofs.Fills.{Filling}
use Rattle.sys_start.proofs.fill.Given as goal

abbrev pub invariant-loop-i : goal.invariant-loop-i
invariant-loop-i l =
    (l.net.kind ≡ l.initial.net.kind) × Filling l.initial.net.kind l.list l.count l.net.cells l.net.used l.net.len l.i

abbrev pub decreases-loop-i : goal.decreases-loop-i
decreases-loop-i l = l.count - l.i
