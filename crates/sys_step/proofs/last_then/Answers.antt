-- A Deliver on the duplicating kind sets the last message; nothing else does.
-- Assumes nothing.
use Rattle.sys_moves.specs.Views.{last_then}
use Rattle.sys_step.proofs.Rows.{delivered-last}
use borrow.Author.Rules.{rules}
use Rattle.sys_step.proofs.last_then.Goals as goal

pub returns-in-Deliver : goal.returns-in-Deliver
returns-in-Deliver c =
    let s = c.args in
    delivered-last s.kind s.last c.in-Deliver.is c.last_after.ensures

pub returns-in-Drop : goal.returns-in-Drop
unfolding last_then
returns-in-Drop c = search rules
