-- `sys_layout::stored_row` meets its contract. The durable part's row, and its mark.
-- Assumes nothing.
use Rattle.link_durable.specs.Views.{durable_view}
use Rattle.sys_layout.proofs.Laws.{with-stored, without-stored}
use Rattle.sys_layout.proofs.stored_row.Goals as goal

pub returns-then-s : goal.returns-then-s
returns-then-s c =
    let s = c.args.s in
    let r = c.durable_row-row in
    (with-stored (durable_view s.durable) s.some r.result r.ensures.0 c.if-s.true, r.ensures.1)

pub returns-else-s : goal.returns-else-s
returns-else-s c =
    let s = c.args.s in
    let r = c.durable_row-row in
    (without-stored (durable_view s.durable) s.some r.result r.ensures.0 c.if-s.false, r.ensures.1)
