-- What the search leaves open of `hear`.
use native.Mathlib.Omega.{arith}
use Rattle.sys_moves.specs.Views.{rows_in, sent_in}
use Rattle.sys_rows.proofs.Laws.{state-small}
use Rattle.sys_deliver.proofs.Chosen.{heard-passed, heard-taken}
use Rattle.sys_deliver.proofs.hear.Goals as goal

pub rule_for-at-requires : goal.rule_for-at-requires
rule_for-at-requires c =
    (c.requires.1, state-small c.args.actor.now.live c.args.actor.now.pend c.requires.0.live)

pub returns-then-table-at : goal.returns-then-table-at
returns-then-table-at c =
    let a = c.args in
    let x = rows_in a.net.now.cells a.actor.now in
    let f = c.rule_for-at in
    let g = c.pass_by in
    λ count. record {
      rows = heard-passed a.net.now.kind a.e a.number a.payload a.net.now.used a.net.now.len x c.requires.0 c.requires.2
          a.table.now.rows a.table.now.used c.requires.1 f.result
          (f.ensures a.e.src) (sent_in g.result g.new.net) (rows_in g.new.net.cells a.actor.now) count
          c.if-table-at.true g.ensures.rows;
      kind = g.ensures.kind;
    }

pub state_after-next-requires : goal.state_after-next-requires
state_after-next-requires c =
    let z = state-small c.args.actor.now.live c.args.actor.now.pend c.requires.0.live in
    (c.requires.1.rows _ (omega arith), omega arith)

pub on_message-requires : goal.on_message-requires
on_message-requires c =
    let z = c.state_after-next.ensures.1 in
    (c.requires.0, c.requires.1.rows _ (omega arith), omega arith, c.requires.2)

pub returns : goal.returns
returns c =
    let a = c.args in
    let x = rows_in a.net.now.cells a.actor.now in
    let f = c.rule_for-at in
    let n = c.state_after-next in
    let g = c.on_message in
    λ count. record {
      rows = heard-taken a.net.now.kind a.e a.number a.payload a.net.now.used a.net.now.len x c.requires.0 c.requires.2
          a.table.now.rows a.table.now.used c.requires.1 f.result
          (f.ensures a.e.src) (sent_in g.result g.new.net) (rows_in g.new.net.cells g.new.actor) count
          (omega (arith, c.if-table-at.false)) n.result n.ensures.0
          g.ensures.rows;
      kind = g.ensures.kind;
    }
