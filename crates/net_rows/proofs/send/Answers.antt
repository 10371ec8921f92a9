-- The envelope is packed once. Each arm knows the kind, and what it calls promises the rules' send on that kind.
-- Assumes nothing.
use Rattle.net_rows.proofs.ByKind.{is-alone, ready-as, sent-as}
use Rattle.net_rows.proofs.send.Goals as goal

pub send_ordered-requires : goal.send_ordered-requires
send_ordered-requires c =
    (ready-as c.in-Ordered.is c.requires, is-alone c.args.e _ c.cell_of-k.ensures)

pub send_once-requires : goal.send_once-requires
send_once-requires c =
    (ready-as c.in-UnorderedDuplicating.is c.requires, is-alone c.args.e _ c.cell_of-k.ensures)

pub send_counted-requires : goal.send_counted-requires
send_counted-requires c =
    (ready-as c.in-UnorderedNonDuplicating.is c.requires, is-alone c.args.e _ c.cell_of-k.ensures)

pub returns-in-Ordered : goal.returns-in-Ordered
returns-in-Ordered c =
    let w = c.cell_of-k in
    let k = c.in-Ordered.is in
    sent-as c.args.e w.ensures k c.send_ordered.ensures

pub returns-in-UnorderedDuplicating : goal.returns-in-UnorderedDuplicating
returns-in-UnorderedDuplicating c =
    let w = c.cell_of-k in
    let k = c.in-UnorderedDuplicating.is in
    sent-as c.args.e w.ensures k c.send_once.ensures

pub returns-in-UnorderedNonDuplicating : goal.returns-in-UnorderedNonDuplicating
returns-in-UnorderedNonDuplicating c =
    let w = c.cell_of-k in
    let k = c.in-UnorderedNonDuplicating.is in
    sent-as c.args.e w.ensures k c.send_counted.ensures
