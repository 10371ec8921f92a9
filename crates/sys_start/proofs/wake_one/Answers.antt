-- `wake_one` meets its contract: fresh rows are the unstarted actor, and what the wake leaves of them is laid back.
-- Assumes nothing.
use Rattle.sys_rows.specs.Rows.{listed_rules}
use Rattle.sys_moves.specs.Views.{rows_in, sent_in}
use Rattle.sys_start.proofs.Wakes.{fresh-fine, wakes}
use Rattle.sys_start.proofs.wake_one.Goals as goal

pub wake-answer-requires : goal.wake-answer-requires
wake-answer-requires c =
    let n = c.args.net.now in
    (rw c.fresh-own.ensures (fresh-fine n.kind n.used n.len n.cells c.requires.0 c.requires.1), c.rows_of.ensures.1)

pub actor_of-requires : goal.actor_of-requires
actor_of-requires c = let f = (c.wake-answer.ensures 0).rows.fine in (f.live, f.kept)

pub returns : goal.returns
returns c =
    let n = c.args.net.now in
    let g = c.wake-answer in
    let f = c.fresh-own.ensures in (
      wakes n.kind n.used n.len n.cells c.requires.0 c.requires.1 c.args.t c.args.me
          (listed_rules (record { rows = c.rows_of.result; used = c.args.t.used })) c.rows_of.ensures.0 (sent_in g.result g.new.net)
          (rows_in g.new.net.cells g.new.actor) (λ count. rw f at (g.ensures count).rows) _ c.actor_of.ensures,
      (g.ensures 0).kind,
    )
