-- What is left of the cells is the rules' outcome on the view. The last message stands apart from the cells.
-- Assumes nothing.
use Rattle.net_network.proofs.Changes.{cells-ready, drop-back}
use Rattle.net_network.proofs.on_drop.Goals as goal

pub on_drop-s-requires : goal.on_drop-s-requires
on_drop-s-requires c =
    let w = c.cells_of-cells in
    cells-ready c.args.n c.requires w.result w.ensures c.len.result c.len.ensures

pub read_back-requires : goal.read_back-requires
read_back-requires c =
    let w = c.cells_of-cells in
    let s = c.on_drop-s in
    (drop-back c.args.n c.requires w.result w.ensures c.len.result c.len.ensures s.result s.new.c c.args.e (s.ensures c.args.n.last)).0

pub returns : goal.returns
returns c =
    let w = c.cells_of-cells in
    let s = c.on_drop-s in
    rw c.read_back.ensures
    (drop-back c.args.n c.requires w.result w.ensures c.len.result c.len.ensures s.result s.new.c c.args.e (s.ensures c.args.n.last)).1
