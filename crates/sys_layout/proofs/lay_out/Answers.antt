-- `lay_out` meets its contract. The rows are the actor's, as the functions that make them say.
-- Assumes nothing.
use Rattle.sys_actor.proofs.Laws.{stored-parts}
use Rattle.sys_layout.proofs.Laws.{laid_out}
use Rattle.sys_layout.proofs.lay_out.Goals as goal

pub stored_row-rows-requires : goal.stored_row-rows-requires
stored_row-rows-requires c =
    stored-parts c.args.a.stored c.requires.1

pub pending_rows-rows-requires-2 : goal.pending_rows-rows-requires-2
pending_rows-rows-requires-2 c =
    stored-parts c.args.a.stored c.requires.1

pub returns : goal.returns
returns c =
    let live = c.live_row-rows.ensures in
    let pend = c.pending_rows-rows.ensures in
    let kept = c.stored_row-rows.ensures in
    let stored = c.pending_rows-rows-2.ensures in
    rw (live.0, pend.0, kept.0, stored.0)
    (laid_out c.args.a c.requires.0 c.requires.1 c.requires.2 live.2 live.1 kept.1 (rw pend.0 at pend.1) (rw stored.0 at stored.1))
