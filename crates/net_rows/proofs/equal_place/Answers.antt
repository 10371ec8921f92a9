-- The envelope is packed once. Kind 0 is searched in its flow, kinds 1 and 2 by halves.
-- Assumes nothing.
use mathlib.Core.Path.{◌∙◌}
use Rattle.net_rows.specs.Views.{entry_list}
use Rattle.net_rows.proofs.ByKind.{is-alone, ready-as, place-as, ascend, cells-flow, differ-is}
use Rattle.net_rows.proofs.equal_place.Goals as goal

pub first_equal-requires : goal.first_equal-requires
first_equal-requires c =
    let r = ready-as c.in-Ordered.is c.requires in
    cells-flow r.laid r.order

pub sorted_place-requires : goal.sorted_place-requires
sorted_place-requires c =
    let r = c.requires in
    (r.laid, is-alone c.args.e _ c.cell_of-k.ensures, ascend c.args.kind c.in_default.not-Ordered _ r.order)

pub returns-in-Ordered : goal.returns-in-Ordered
returns-in-Ordered c =
    let a = is-alone c.args.e _ c.cell_of-k.ensures in
    differ-is c.requires.laid a c.first_equal.result c.first_equal.ensures
    ∙ place-as c.args.e _ c.cell_of-k.ensures (entry_list c.args.c.now c.args.used)

pub returns-in_default : goal.returns-in_default
returns-in_default c =
    c.sorted_place.ensures ∙ place-as c.args.e _ c.cell_of-k.ensures (entry_list c.args.c.now c.args.used)
