-- What the search leaves open of `cells_of`.
-- Assumes nothing.
use Rattle.std.proofs.Common.{length, take, length-take-le, arith, rules, sym, ap, ◌≡◌, ◌∙◌}
use Rattle.lists.proofs.Places.{fill_more, length-mapped}
use Rattle.types.specs.Capacities.{most_entries}
use Rattle.net_cells.specs.Cells.{cell_of, entry_of, zero_cell, zero_entry}
use Rattle.net_layout.proofs.Laws.{read_more}
use Rattle.net_layout.proofs.cells_of.Goals as goal

pub loop-i-preserved : goal.loop-i-preserved
loop-i-preserved c =
    let l = c.loop-i in
    let es = take c.args.used c.args.entries in
    let w = c.cell_with in
    let room : length c.args.entries ≡ most_entries = search (rules, length-mapped) in
    let few : length es ≡ c.args.used = length-take-le c.args.used c.args.entries (omega arith) in (
      fill_more cell_of zero_entry es l.i (omega arith) most_entries zero_cell l.cs w.result (omega arith) l.invariant.0 w.ensures.cell,
      read_more cell_of zero_entry es l.i (omega arith) entry_of l.invariant.1 (ap entry_of (sym w.ensures.cell) ∙ w.ensures.back),
    )
