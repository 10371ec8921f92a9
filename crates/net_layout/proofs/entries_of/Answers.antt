-- What the search leaves open of `entries_of`.
-- Assumes nothing.
use Rattle.std.proofs.Common.{length, [], take, length-take-le, arith, ◌≡◌}
use Rattle.lists.proofs.Places.{fill_more}
use Rattle.types.specs.Capacities.{most_entries}
use Rattle.net_cells.specs.Cells.{entry_of, zero_entry}
use Rattle.net_layout.proofs.Laws.{count_fits}
use Rattle.net_layout.proofs.entries_of.Goals as goal

pub entry_of-requires : goal.entry_of-requires
entry_of-requires c = count_fits (take c.args.used c.args.c.now) c.loop-i.i c.loop-i-test.true c.requires.counts

pub loop-i-preserved : goal.loop-i-preserved
loop-i-preserved c =
    let l = c.loop-i in
    let cs = take c.args.used c.args.c.now in
    let few : length cs ≡ c.args.used = length-take-le c.args.used c.args.c.now c.requires.fit in
    fill_more entry_of [] cs l.i (omega arith) most_entries zero_entry l.es c.entry_of.result (omega arith) l.invariant c.entry_of.ensures
