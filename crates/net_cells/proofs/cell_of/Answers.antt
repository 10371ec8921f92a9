-- Each arm knows the message, whose number and payload are in range.
-- Assumes nothing.
use Rattle.net_cells.proofs.Laws.{made-message, made-ack}
use borrow.Author.Rules.{rules}
use Rattle.net_cells.proofs.cell_of.Goals as goal

pub returns-in-Deliver : goal.returns-in-Deliver
returns-in-Deliver c =
    let e = c.args.e in
    made-message e _ _ c.head_with.result c.in-Deliver.is c.head_with.ensures
    (search rules) (search rules) (search rules)

pub returns-in-Ack : goal.returns-in-Ack
returns-in-Ack c =
    let e = c.args.e in
    made-ack e _ c.head_with-in-Ack.result c.in-Ack.is c.head_with-in-Ack.ensures (search rules) (search rules)
