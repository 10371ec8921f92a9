-- One copy goes. Where there is none, the answer is that of the kind, and nothing changes.
-- Assumes nothing.
use Rattle.net_rows.proofs.ByKind.{dropped, absent}
use Rattle.net_rows.proofs.on_drop.Goals as goal

pub returns-then-at-used : goal.returns-then-at-used
returns-then-at-used c =
    let w = c.equal_place-at in
    dropped c.requires.laid c.args.e c.args.kind w.result w.ensures c.if-at-used.true c.take_out.ensures

pub returns : goal.returns
returns c =
    let w = c.equal_place-at in
    rw c.when_absent.ensures (absent c.requires.laid c.args.e c.args.kind w.result w.ensures c.if-at-used.false)
