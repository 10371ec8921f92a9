-- The timer goes; then the commands of the rule that decides, if one does.
use native.Mathlib.Omega.{arith}
use Prim.Native.Nat.{◌<◌}
use mathlib.Core.Path.{refl, ap}
use mathlib.Core.List.{[]}
use lib.ListN.{get_or}
use Rattle.rules.specs.Inner.{Reply, nobody}
use Rattle.link_timers.specs.declared.Change.{Change}
use Rattle.link_tables.specs.Rows.{orders}
use Rattle.sys_rows.specs.Rows.{listed_rules}
use Rattle.link_tables.proofs.Replies.{place-counts, place-replies, place-idle}
use Rattle.sys_moves.specs.Views.{rows_in, sent_in}
use Rattle.sys_rows.proofs.Laws.{timers-small, state-small}
use Rattle.sys_timeout.proofs.Laws.{idle, timed}
use borrow.Author.Rules.{rules}
use Rattle.sys_timeout.proofs.on_user.Goals as goal

pub overflow_cast-set : goal.overflow_cast-set
overflow_cast-set c =
    let z = timers-small c.args.actor.now.live c.args.actor.now.pend c.requires.0.live in
    search rules

pub deciding-at-requires : goal.deciding-at-requires
deciding-at-requires c =
    let z = state-small c.args.actor.now.live c.args.actor.now.pend c.requires.0.live in
    (c.requires.1, omega arith, omega arith)

pub returns-then-table-at : goal.returns-then-table-at
returns-then-table-at c =
    let a = c.args in
    let w = a.actor.now.live in
    let cut = c.cancel-cut in
    let d = c.deciding-at in
    let i = place-idle 3 (get_or w 7 0) nobody a.timer a.table.now.rows a.table.now.used d.result c.requires.1 (d.ensures nobody) c.if-table-at.true in
    λ count. record {
      rows = idle a.me count (listed_rules a.table.now) a.net.now.kind a.net.now.used a.net.now.len
          (rows_in a.net.now.cells a.actor.now) c.requires.0 a.timer c.requires.2 c.requires.3
          cut.result.timers (ap (λ (h : Change). h.timers) cut.ensures) i;
      kind = refl;
    }

pub by_rule-requires : goal.by_rule-requires
by_rule-requires c =
    let at = c.deciding-at.result in
    let h : at < c.args.table.now.used = omega (arith, c.if-table-at.false) in
    (c.requires.0, c.requires.1.rows at h, state-small c.args.actor.now.live c.args.actor.now.pend c.requires.0.live)

pub returns : goal.returns
returns c =
    let a = c.args in
    let w = a.actor.now.live in
    let cut = c.cancel-cut in
    let d = c.deciding-at in
    let h : d.result < a.table.now.used = omega (arith, c.if-table-at.false) in
    let i = place-counts 3 (get_or w 7 0) nobody a.timer a.table.now.rows a.table.now.used d.result c.requires.1 (d.ensures nobody) h in
    let says = place-replies 3 (get_or w 7 0) nobody a.timer a.table.now.rows a.table.now.used d.result c.requires.1 (d.ensures nobody) h in
    let e = ap (λ (r : Reply). r.out) says in
    let x = c.by_rule in
    λ count. record {
      rows = timed a.me count (listed_rules a.table.now) a.net.now.kind a.net.now.used a.net.now.len
          (rows_in a.net.now.cells a.actor.now) c.requires.0 a.timer c.requires.2 c.requires.3
          cut.result.timers (ap (λ (h : Change). h.timers) cut.ensures) (orders (get_or a.table.now.rows d.result []) nobody a.timer) i e
          (sent_in x.result x.new.net) (rows_in x.new.net.cells x.new.actor) x.ensures.rows;
      kind = x.ensures.kind;
    }
