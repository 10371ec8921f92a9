-- The search tells whether it is there: then nothing changes, and else it goes in.
-- Assumes nothing.
use mathlib.Core.Path.{sym, ◌∙◌}
use Rattle.net_rows.proofs.ByKind.{ascend, set-sorted, free-fits, sent-free, sent-same}
use Rattle.net_rows.proofs.send_once.Goals as goal

pub look_up-requires : goal.look_up-requires
look_up-requires c =
    (c.requires.0.laid, c.requires.1, ascend _ set-sorted _ c.requires.0.order)

pub insert_cell-requires : goal.insert_cell-requires
insert_cell-requires c =
    let q = sym c.look_up.ensures ∙ c.in-Err.is in
    (c.requires.0.laid, free-fits c.requires.0.laid c.requires.1 set-sorted c.requires.0.order _ q, c.requires.1)

pub returns-in-Ok : goal.returns-in-Ok
returns-in-Ok c =
    let q = sym c.look_up.ensures ∙ c.in-Ok.is in
    sent-same c.requires.0.laid c.requires.1 c.requires.0.order _ q

pub returns-in-Err : goal.returns-in-Err
returns-in-Err c =
    let q = sym c.look_up.ensures ∙ c.in-Err.is in
    sent-free c.requires.0.laid c.requires.1 set-sorted c.requires.0.order _ q c.insert_cell.ensures
