-- The search by halves finds the end of the flow, since the flows ascend.
-- Assumes nothing.
use Rattle.net_rows.proofs.Laws.{lead-fits}
use Rattle.net_rows.proofs.ByKind.{once-flow, sent-flow}
use Rattle.net_slots.specs.Search.{up_to_flow}
use Rattle.net_rows.proofs.send_ordered.Goals as goal

pub flow_end-at-requires : goal.flow_end-at-requires
flow_end-at-requires c =
    once-flow c.requires.0.laid c.requires.1 c.requires.0.order

pub insert_cell-requires : goal.insert_cell-requires
insert_cell-requires c =
    let w = c.flow_end-at in
    (c.requires.0.laid, lead-fits c.requires.0.laid (up_to_flow c.args.k) w.result w.ensures, c.requires.1)

pub returns : goal.returns
returns c =
    let w = c.flow_end-at in
    sent-flow c.requires.0.laid c.requires.1 w.result w.ensures c.insert_cell.ensures
