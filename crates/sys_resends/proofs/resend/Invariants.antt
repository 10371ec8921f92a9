-- What the loops of `resend` keep, and why they end.
use Prim.Native.Nat.{◌-◌, ◌≤◌}
use mathlib.Core.List.{map}
use lib.ListN.{take, drop}
use Rattle.rules.specs.Link.{resent}
use Rattle.link_rows.specs.Rows.{pending_in}
use Rattle.sys_resends.proofs.Laws.{Along}
use Rattle.sys_resends.proofs.resend.Given as goal

abbrev pub invariant-loop-i : goal.invariant-loop-i
invariant-loop-i l =
    (l.i ≤ l.n) × Along l.kind l.me (take l.limit (resent (map pending_in (take l.n l.pend)))) l.initial.c l.used l.timers l.c l.u l.l l.k (drop l.i
    (map pending_in (take l.n l.pend)))

abbrev pub decreases-loop-i : goal.decreases-loop-i
decreases-loop-i l = l.n - l.i
