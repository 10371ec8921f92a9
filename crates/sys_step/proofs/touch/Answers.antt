-- The rows are those of network and actor, and what the action leaves of them is laid back.
-- Assumes nothing.
use mathlib.Core.Path.{refl, ◌∙◌}
use Rattle.sys_rows.specs.Rows.{listed_rules}
use Rattle.sys_moves.specs.Views.{rows_in, sent_in}
use Rattle.sys_step.proofs.Rows.{fine-rows, touches}
use Rattle.sys_step.proofs.touch.Goals as goal

pub act-answer-requires : goal.act-answer-requires
act-answer-requires c = (
  fine-rows c.args.count c.args.n c.args.b c.args.t c.requires.net c.cells_of.result c.cells_of.ensures
      c.lay_out.new.rows c.lay_out.ensures c.len.result c.len.ensures,
  c.rows_of.ensures.1,
  c.requires.few,
)

pub returns : goal.returns
returns c =
    let t = c.rows_of in
    let g = c.act-answer in
    touches c.args.count c.args.n c.args.b c.args.t c.requires.net c.cells_of.result c.cells_of.ensures
    c.lay_out.new.rows c.lay_out.ensures c.len.result c.len.ensures c.args.a
    (listed_rules (record { rows = t.result; used = c.args.t.used })) t.ensures.0 (sent_in g.result g.new.net)
    (rows_in g.new.net.cells g.new.actor) g.ensures.rows _ refl (c.read_back.ensures ∙ rw c.last_then-last.ensures) c.actor_of.ensures
