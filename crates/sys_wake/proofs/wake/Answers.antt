-- What the search leaves open of `wake`.
use mathlib.Core.Path.{sym, ◌∙◌}
use Rattle.sys_rows.specs.Rows.{listed_rules}
use Rattle.sys_moves.specs.Views.{Rows, rows_in, sent_in}
use Rattle.sys_wake.proofs.Wakes.{from-fine, woken-done, woken-back}
use Rattle.sys_wake.proofs.wake.Goals as goal

pub start-answer-requires : goal.start-answer-requires
start-answer-requires c =
    let a = c.args in
    let x : Rows = rows_in a.net.now.cells a.actor.now in
    let rs = listed_rules a.table.now in
    let y = c.load.ensures in (
      rw (y.1, y.2) (from-fine 0 a.me rs a.net.now.kind a.net.now.used a.net.now.len x c.load.new.actor.live c.load.new.actor.pend y.0 c.requires.0),
      c.requires.1,
      rw (y.1, y.2) y.0.durable,
    )

pub returns-else-not-is_done : goal.returns-else-not-is_done
returns-else-not-is_done c =
    let a = c.args in
    let x : Rows = rows_in a.net.now.cells a.actor.now in
    let rs = listed_rules a.table.now in
    let g = c.start-answer in
    let z : Rows = rows_in g.new.net.cells g.new.actor in
    let y = c.load.ensures in
    λ count. record {
      rows = woken-done count a.me rs a.net.now.kind a.net.now.used a.net.now.len x c.load.new.actor.live c.load.new.actor.pend y.0
          (sent_in g.result g.new.net) z (rw (y.1, y.2) at (g.ensures count).rows) (sym c.is_done.ensures ∙ c.if-not-is_done.false);
      kind = (g.ensures count).kind;
    }

pub returns-then-not-is_done : goal.returns-then-not-is_done
returns-then-not-is_done c =
    let a = c.args in
    let x : Rows = rows_in a.net.now.cells a.actor.now in
    let rs = listed_rules a.table.now in
    let g = c.start-answer in
    let z : Rows = rows_in g.new.net.cells g.new.actor in
    let y = c.load.ensures in
    λ count. record {
      rows = woken-back count a.me rs a.net.now.kind a.net.now.used a.net.now.len x c.load.new.actor.live c.load.new.actor.pend y.0
          (sent_in g.result g.new.net) z (rw (y.1, y.2) at (g.ensures count).rows) c.requires.0 (sym c.is_done.ensures ∙ c.if-not-is_done.true);
      kind = (g.ensures count).kind;
    }
