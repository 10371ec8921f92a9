-- 2, 5, and then by the timer.
use native.Mathlib.Omega.{arith}
use Prim.Native.Nat.{◌≤◌, ◌<◌}
use mathlib.Core.Path.{refl, sym, ◌∙◌}
use Rattle.types.specs.Capacities.{network}
use Rattle.sys_rows.specs.Rows.{listed_rules}
use Rattle.sys_moves.specs.Views.{rows_in, sent_in}
use Rattle.sys_rows.proofs.Laws.{timers-small}
use Rattle.sys_timeout.proofs.Laws.{far, unset, as-network}
use borrow.Author.Rules.{rules}
use Rattle.sys_timeout.proofs.timeout.Goals as goal

pub returns-then-timer-gt-NETWORK : goal.returns-then-timer-gt-NETWORK
returns-then-timer-gt-NETWORK c =
    let a = c.args in
    λ count. record {
      rows = far a.i count (listed_rules a.table.now) a.net.now.kind a.net.now.used a.net.now.len
          (rows_in a.net.now.cells a.actor.now) c.requires.0 a.timer c.if-timer-gt-NETWORK.true;
      kind = refl;
    }

pub overflow_cast-actor : goal.overflow_cast-actor
overflow_cast-actor c =
    let z = timers-small c.args.actor.now.live c.args.actor.now.pend c.requires.0.live in
    search rules

pub returns-then-not-is_set : goal.returns-then-not-is_set
returns-then-not-is_set c =
    let a = c.args in
    let near : a.timer ≤ network = omega (arith, c.if-timer-gt-NETWORK.false) in
    λ count. record {
      rows = unset a.i count (listed_rules a.table.now) a.net.now.kind a.net.now.used a.net.now.len
          (rows_in a.net.now.cells a.actor.now) c.requires.0 a.timer near
          (sym c.is_set.ensures ∙ c.if-not-is_set.true);
      kind = refl;
    }

pub on_network-requires : goal.on_network-requires
on_network-requires c =
    let e = sym c.is_set.ensures ∙ c.if-not-is_set.false in
    (c.requires.0, rw (sym c.if-timer-eq-NETWORK.true) e)

pub returns-then-timer-eq-NETWORK : goal.returns-then-timer-eq-NETWORK
returns-then-timer-eq-NETWORK c =
    let a = c.args in
    let rs = listed_rules a.table.now in
    let x = rows_in a.net.now.cells a.actor.now in
    λ count. record {
      rows = as-network a.i count rs a.net.now.kind a.net.now.used a.net.now.len x a.timer (sent_in c.on_network.result c.on_network.new.net)
          (rows_in c.on_network.new.net.cells a.actor.now) c.if-timer-eq-NETWORK.true
          (c.on_network.ensures count rs).rows;
      kind = (c.on_network.ensures count rs).kind;
    }

pub on_user-requires : goal.on_user-requires
on_user-requires c =
    let near : c.args.timer ≤ network = omega (arith, c.if-timer-gt-NETWORK.false) in
    let h : c.args.timer < network = omega (arith, c.if-timer-eq-NETWORK.false) in
    (c.requires.0, c.requires.1, h, sym c.is_set.ensures ∙ c.if-not-is_set.false)

pub returns : goal.returns
returns c = c.on_user.ensures
