-- `sys_rows::settle` meets its contract. The commands are noted; the marks stand aside of the durable part.
-- Assumes nothing.
use mathlib.Core.Path.{◌≡◌}
use Prim.Native.Nat.{◌<◌}
use lib.ListN.{length}
use Rattle.types.specs.Capacities.{most_pending}
use Rattle.link_tables.specs.Rows.{orders}
use Rattle.link_rows.specs.Rows.{row_size}
use Rattle.sys_rows.proofs.Laws.{settled}
use borrow.Author.Rules.{rules}
use Rattle.sys_rows.proofs.settle.Goals as goal

pub returns : goal.returns
returns c =
    let a = c.args in
    let os = orders a.row.now a.source a.value in
    let n = c.note in
    let w1 = n.new.live in
    let p1 = n.new.pend in
    let r1 : length w1 ≡ row_size = search (rules, c.requires.1.room) in
    let r2 : length p1 ≡ most_pending = search (rules, c.requires.1.places) in
    let ht : a.timers < 4294967296 = search rules in
    rw c.put_marks.ensures
    (settled os a.live.now a.pend.now w1 p1 a.timers a.state c.requires.1 n.ensures r1 r2 c.requires.3 ht c.requires.2)
