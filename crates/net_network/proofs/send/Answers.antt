-- What is left of the cells is the rules' outcome on the view. The last message stands apart from the cells.
-- Assumes nothing.
use Rattle.net_network.proofs.Changes.{cells-ready, send-back}
use Rattle.net_network.proofs.send.Goals as goal

pub send-s-requires : goal.send-s-requires
send-s-requires c =
    let w = c.cells_of-cells in
    cells-ready c.args.n c.requires w.result w.ensures c.len.result c.len.ensures

pub read_back-requires : goal.read_back-requires
read_back-requires c =
    let w = c.cells_of-cells in
    let s = c.send-s in
    (send-back c.args.n c.requires w.result w.ensures c.len.result c.len.ensures s.result s.new.c c.args.e (s.ensures c.args.n.last)).0

pub returns : goal.returns
returns c =
    let w = c.cells_of-cells in
    let s = c.send-s in
    rw c.read_back.ensures
    (send-back c.args.n c.requires w.result w.ensures c.len.result c.len.ensures s.result s.new.c c.args.e (s.ensures c.args.n.last)).1
