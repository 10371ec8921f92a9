-- `sys_layout::live_row` meets its contract. The durable part's row, and the marks one by one.
-- Assumes nothing.
use Prim.Native.Nat.{◌<◌}
use Rattle.link_durable.specs.Views.{durable_view}
use Rattle.sys_layout.proofs.Laws.{with-mark, without-mark}
use borrow.Author.Rules.{rules}
use Rattle.sys_layout.proofs.live_row.Goals as goal

pub returns-then-a : goal.returns-then-a
returns-then-a c =
    let a = c.args.a in
    let r = c.durable_row-row in
    let h : a.timers.0 < 4294967296 = search rules in
    (with-mark (durable_view a.link.durable) a.crashed a.timers.0 a.link.state r.result r.ensures.0 c.if-a.true, r.ensures.1, h)

pub returns-else-a : goal.returns-else-a
returns-else-a c =
    let a = c.args.a in
    let r = c.durable_row-row in
    let h : a.timers.0 < 4294967296 = search rules in
    (without-mark (durable_view a.link.durable) a.crashed a.timers.0 a.link.state r.result r.ensures.0 c.if-a.false, r.ensures.1, h)
