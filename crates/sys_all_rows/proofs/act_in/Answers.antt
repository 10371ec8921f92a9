-- The rows of the seat are lent, and what is left of them is put back among the others.
use Prim.Native.Nat.{◌<◌}
use Rattle.types.specs.Capacities.{most_actors}
use Rattle.sys_moves.specs.Views.{sent_in}
use Rattle.sys_all_rows.proofs.Moves.{inside, below, moved}
use borrow.Author.Rules.{rules}
use Rattle.sys_all_rows.proofs.act_in.Goals as goal

pub offset_bounds-actors-k : goal.offset_bounds-actors-k
offset_bounds-actors-k c = let h : c.seat-k.result < most_actors = below c.requires c.args.a c.seat-k.result c.seat-k.ensures in search (rules, h)

pub bounds-actors-k : goal.bounds-actors-k
bounds-actors-k c = below c.requires c.args.a c.seat-k.result c.seat-k.ensures

pub offset_bounds-tables-k : goal.offset_bounds-tables-k
offset_bounds-tables-k c = let h : c.seat-k.result < most_actors = below c.requires c.args.a c.seat-k.result c.seat-k.ensures in search (rules, h)

pub bounds-tables-k : goal.bounds-tables-k
bounds-tables-k c = below c.requires c.args.a c.seat-k.result c.seat-k.ensures

pub act-requires : goal.act-requires
act-requires c =
    let k = c.seat-k in
    let w = inside c.requires c.args.a k.result k.ensures in
    (c.requires.fine k.result w, c.requires.tables k.result w, c.requires.few)

pub returns : goal.returns
returns c =
    let k = c.seat-k in
    let g = c.act in
    (moved c.requires c.args.a k.result k.ensures (sent_in g.result g.new.net) g.new.net.cells g.new.actor g.ensures.rows, g.ensures.kind)
