-- The search tells whether it is there: then one copy more is counted, and else it goes in.
-- Assumes nothing.
use mathlib.Core.Path.{sym, ◌∙◌}
use Rattle.net_rows.proofs.ByKind.{ascend, counted-sorted, at-fits, free-fits, sent-free, sent-again}
use Rattle.net_rows.proofs.send_counted.Goals as goal

pub look_up-requires : goal.look_up-requires
look_up-requires c =
    (c.requires.0.laid, c.requires.1, ascend _ counted-sorted _ c.requires.0.order)

pub count_up-requires : goal.count_up-requires
count_up-requires c =
    let q = sym c.look_up.ensures ∙ c.in-Ok.is in
    (c.requires.0.laid, at-fits c.requires.0.laid c.requires.1 counted-sorted c.requires.0.order _ q)

pub insert_cell-requires : goal.insert_cell-requires
insert_cell-requires c =
    let q = sym c.look_up.ensures ∙ c.in-Err.is in
    (c.requires.0.laid, free-fits c.requires.0.laid c.requires.1 counted-sorted c.requires.0.order _ q, c.requires.1)

pub returns-in-Ok : goal.returns-in-Ok
returns-in-Ok c =
    let q = sym c.look_up.ensures ∙ c.in-Ok.is in
    sent-again c.requires.0.laid c.requires.1 c.requires.0.order _ q c.count_up.ensures

pub returns-in-Err : goal.returns-in-Err
returns-in-Err c =
    let q = sym c.look_up.ensures ∙ c.in-Err.is in
    sent-free c.requires.0.laid c.requires.1 counted-sorted c.requires.0.order _ q c.insert_cell.ensures
