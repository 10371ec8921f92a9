-- What the search leaves open of `recover`.
use mathlib.Core.Path.{refl, sym, ◌∙◌}
use Rattle.sys_rows.specs.Rows.{listed_rules}
use Rattle.sys_moves.specs.Views.{Rows, rows_in, sent_in}
use Rattle.sys_wake.proofs.Wakes.{bare-fine, is_live, is-crashed, stepped-live, stepped-done, stepped-back}
use Rattle.sys_wake.proofs.recover.Goals as goal

pub returns-then-mark-eq0 : goal.returns-then-mark-eq0
returns-then-mark-eq0 c =
    let a = c.args in
    let x : Rows = rows_in a.net.now.cells a.actor.now in
    let rs = listed_rules a.table.now in
    λ count. record {
      rows = stepped-live count a.i rs a.net.now.kind a.net.now.used a.net.now.len x c.requires.0 (is_live _ c.if-mark-eq0.true);
      kind = refl;
    }

pub wake-answer-requires : goal.wake-answer-requires
wake-answer-requires c =
    let a = c.args in
    let x : Rows = rows_in a.net.now.cells a.actor.now in
    let rs = listed_rules a.table.now in
    (bare-fine 0 a.i rs a.net.now.kind a.net.now.used a.net.now.len x c.requires.0, c.requires.1)

pub returns-else-not-is_done : goal.returns-else-not-is_done
returns-else-not-is_done c =
    let a = c.args in
    let x : Rows = rows_in a.net.now.cells a.actor.now in
    let rs = listed_rules a.table.now in
    let g = c.wake-answer in
    let z : Rows = rows_in g.new.net.cells g.new.actor in
    λ count. record {
      rows = stepped-done count a.i rs a.net.now.kind a.net.now.used a.net.now.len x c.requires.0
          (is-crashed _ c.if-mark-eq0.false) (sent_in g.result g.new.net) z (g.ensures count).rows
          (sym c.is_done.ensures ∙ c.if-not-is_done.false);
      kind = (g.ensures count).kind;
    }

pub returns-then-not-is_done : goal.returns-then-not-is_done
returns-then-not-is_done c =
    let a = c.args in
    let x : Rows = rows_in a.net.now.cells a.actor.now in
    let rs = listed_rules a.table.now in
    let g = c.wake-answer in
    let z : Rows = rows_in g.new.net.cells g.new.actor in
    λ count. record {
      rows = stepped-back count a.i rs a.net.now.kind a.net.now.used a.net.now.len x c.requires.0
          (is-crashed _ c.if-mark-eq0.false) (sent_in g.result g.new.net) z (g.ensures count).rows
          (sym c.is_done.ensures ∙ c.if-not-is_done.true);
      kind = (g.ensures count).kind;
    }
