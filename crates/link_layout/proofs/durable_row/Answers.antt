-- `link_layout::durable_row` meets its contract. The numbers last taken stand in place, and the words in front of them are written one by one.
-- Assumes nothing.
use Prim.Native.Nat.{◌<◌}
use Rattle.lists.proofs.Places.{length-mapped}
use Rattle.link_layout.proofs.Laws.{row-nothing, row-value}
use Rattle.link_durable.proofs.Containers.{durable-parts}
use borrow.Author.Rules.{rules}
use Rattle.link_layout.proofs.durable_row.Goals as goal

pub taken_row-row-requires : goal.taken_row-row-requires
taken_row-row-requires c = (durable-parts c.args.d c.requires).1

pub returns-in-Some : goal.returns-in-Some
returns-in-Some c =
    let v = c.in-Some.v in
    let h : v < 4294967296 = search rules in
    row-value c.args.d (search (rules, length-mapped)) (search (rules, length-mapped)) c.requires _ c.taken_row-row.ensures v c.in-Some.is h

pub returns-in_default : goal.returns-in_default
returns-in_default c =
    row-nothing c.args.d (search (rules, length-mapped)) (search (rules, length-mapped)) c.requires _ c.taken_row-row.ensures c.in_default.is
