-- What the search leaves open of `deliver`.
use mathlib.Core.Path.{refl}
use native.Mathlib.Omega.{arith}
use borrow.Author.Tests.{eq-eqb, ne_eqb}
use Rattle.sys_rows.specs.Rows.{listed_rules}
use Rattle.sys_moves.specs.Views.{rows_in, sent_in}
use Rattle.sys_deliver.proofs.Chosen.{no_source, deaf, delivered, acks}
use Rattle.sys_deliver.proofs.deliver.Goals as goal

pub returns-then-count-source : goal.returns-then-count-source
returns-then-count-source c =
    let a = c.args in
    record {
      rows = no_source a.net.now.kind a.e a.net.now.used a.net.now.len (rows_in a.net.now.cells a.actor.now) c.requires.0
          (listed_rules a.table.now) a.count c.if-count-source.true;
      kind = refl;
    }

pub returns-then-actor-eq1 : goal.returns-then-actor-eq1
returns-then-actor-eq1 c =
    let a = c.args in
    record {
      rows = deaf a.net.now.kind a.e a.net.now.used a.net.now.len (rows_in a.net.now.cells a.actor.now) c.requires.0
          (listed_rules a.table.now) a.count (omega arith) (eq-eqb _ _ c.if-actor-eq1.true);
      kind = refl;
    }

pub on_ack-requires : goal.on_ack-requires
on_ack-requires c = c.requires.0

pub hear-requires : goal.hear-requires
hear-requires c =
    (c.requires.0, c.requires.1, let z = c.requires.2 in omega arith)

pub returns-in-Ack : goal.returns-in-Ack
returns-in-Ack c =
    let a = c.args in
    let g = c.on_ack in
    record {
      rows = acks a.net.now.kind a.e a.net.now.used a.net.now.len (rows_in a.net.now.cells a.actor.now) c.requires.0
          (listed_rules a.table.now) a.count (omega (
            arith,
            c.if-count-source.false,
          ))
          (ne_eqb _ _ c.if-actor-eq1.false) _
          c.in-Ack.is (sent_in g.result g.new.net)
          (rows_in g.new.net.cells g.new.actor) g.ensures.rows;
      kind = g.ensures.kind;
    }

pub returns-in-Deliver : goal.returns-in-Deliver
returns-in-Deliver c =
    let a = c.args in
    let g = c.hear in
    record {
      rows = delivered a.net.now.kind a.e a.net.now.used a.net.now.len (rows_in a.net.now.cells a.actor.now) c.requires.0
          (listed_rules a.table.now) a.count (omega (
            arith,
            c.if-count-source.false,
          ))
          (ne_eqb _ _ c.if-actor-eq1.false) _
          c.in-Deliver.is (sent_in g.result g.new.net)
          (rows_in g.new.net.cells g.new.actor) (g.ensures a.count).rows;
      kind = (g.ensures a.count).kind;
    }
