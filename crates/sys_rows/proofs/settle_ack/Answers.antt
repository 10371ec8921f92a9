-- `sys_rows::settle_ack` meets its contract. The change is up to place 3, so all else stays.
-- Assumes nothing.
use mathlib.Core.Path.{◌≡◌}
use lib.ListN.{length}
use Rattle.types.specs.Capacities.{most_pending}
use Rattle.link_rows.specs.Rows.{row_size}
use Rattle.sys_rows.proofs.Laws.{settled-low}
use borrow.Author.Rules.{rules}
use Rattle.sys_rows.proofs.settle_ack.Goals as goal

pub returns : goal.returns
returns c =
    let a = c.args in
    let e = c.drop_acked in
    let r1 : length e.new.live ≡ row_size = search (rules, c.requires.room) in
    let r2 : length e.new.pend ≡ most_pending = search (rules, c.requires.places) in
    settled-low _ a.live.now a.pend.now e.new.live e.new.pend c.requires e.ensures.0 e.ensures.1 r1 r2
