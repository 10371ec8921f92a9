-- What the loops of `emit` keep, and why they end.
use Prim.Native.Nat.{◌≤◌, ◌-◌}
use lib.ListN.{take, drop}
use Rattle.link_tables.specs.Rows.{orders}
use Rattle.link_direct.specs.Direct.{asked}
use Rattle.sys_emits.proofs.Along.{Along}
use Rattle.sys_emits.proofs.emit.Given as goal

abbrev pub invariant-loop-i : goal.invariant-loop-i
invariant-loop-i l =
    (l.i ≤ l.n) × Along l.kind l.me (take l.limit (asked l.next
    (orders l.row l.source l.value))) l.initial.c l.used l.timers l.c l.u l.l l.w l.m l.k (drop l.i (orders l.row l.source l.value))

abbrev pub decreases-loop-i : goal.decreases-loop-i
decreases-loop-i l = l.n - l.i
