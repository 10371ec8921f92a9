-- What the search leaves open of `by_rule`.
use mathlib.Core.Path.{refl, sym, ap, ◌∙◌}
use lib.ListN.{length}
use borrow.Author.Tests.{eq-eqb, ne_eqb}
use Rattle.link_tables.specs.Rows.{orders}
use Rattle.link_tables.proofs.Told.{row-four}
use Rattle.sys_moves.specs.Views.{Rows, rows_in}
use Rattle.sys_moves.proofs.Laws.{enough, acted-refused, acted-full, acted-plain, acted-stored}
use borrow.Author.Rules.{rules}
use Rattle.sys_moves.proofs.by_rule.Goals as goal

pub bounds-actor-0 : goal.bounds-actor-0
bounds-actor-0 c = let z = c.requires.0.live.room in search rules

pub refusal_of-why-requires : goal.refusal_of-why-requires
refusal_of-why-requires c = (c.requires.1, c.requires.0.live.room, c.requires.0.live.pending)

pub returns-then-not-is_done : goal.returns-then-not-is_done
returns-then-not-is_done c =
    let a = c.args in
    let os = orders a.row.now a.source a.value in
    let x : Rows = rows_in a.net.now.cells a.actor.now in
    let why = c.refusal_of-why in
    record {
      rows = acted-refused a.me a.net.now.kind os a.timers a.state a.net.now.used a.net.now.len x c.requires.0 why.result (why.ensures a.source a.value)
          (sym c.is_done.ensures ∙ c.if-not-is_done.true);
      kind = refl;
    }

pub react_row-s-requires : goal.react_row-s-requires
react_row-s-requires c =
    let a = c.args in
    let os = orders a.row.now a.source a.value in
    let x : Rows = rows_in a.net.now.cells a.actor.now in
    let why = c.refusal_of-why in
    let g = enough a.me a.net.now.kind os a.timers a.state a.net.now.used a.net.now.len x c.requires.0 why.result (why.ensures a.source a.value)
    (sym c.is_done.ensures ∙ c.if-not-is_done.false) in
    (c.requires.0.net, c.requires.1, g.0, c.requires.0.room)

pub returns-then-not-is_done-2 : goal.returns-then-not-is_done-2
returns-then-not-is_done-2 c =
    let a = c.args in
    let os = orders a.row.now a.source a.value in
    let x : Rows = rows_in a.net.now.cells a.actor.now in
    let why = c.refusal_of-why in
    let g = enough a.me a.net.now.kind os a.timers a.state a.net.now.used a.net.now.len x c.requires.0 why.result (why.ensures a.source a.value)
    (sym c.is_done.ensures ∙ c.if-not-is_done.false) in
    let y = c.react_row-s in
    record {
      rows = acted-full a.me a.net.now.kind os a.timers a.state a.net.now.used a.net.now.len x c.requires.0 g.0 g.1
          (row-four a.row.now a.source a.value c.requires.1) y.result y.new.c a.source y.ensures
          (sym c.is_done-2.ensures ∙ c.if-not-is_done-2.true);
      kind = refl;
    }

pub settle-requires : goal.settle-requires
settle-requires c =
    let a = c.args in
    let os = orders a.row.now a.source a.value in
    let x : Rows = rows_in a.net.now.cells a.actor.now in
    let why = c.refusal_of-why in
    let g = enough a.me a.net.now.kind os a.timers a.state a.net.now.used a.net.now.len x c.requires.0 why.result (why.ensures a.source a.value)
    (sym c.is_done.ensures ∙ c.if-not-is_done.false) in
    (c.requires.1, c.requires.0.live, c.requires.2, g.1, g.0)

pub bounds-row-15 : goal.bounds-row-15
bounds-row-15 c =
    let z = c.requires.1.room in
    search rules

pub store-requires : goal.store-requires
store-requires c =
    (c.settle.ensures.live.laid, ap length c.settle.ensures.stored ∙ c.requires.0.kept.places)

pub returns-then-row-eq1 : goal.returns-then-row-eq1
returns-then-row-eq1 c =
    let a = c.args in
    let os = orders a.row.now a.source a.value in
    let x : Rows = rows_in a.net.now.cells a.actor.now in
    let why = c.refusal_of-why in
    let g = enough a.me a.net.now.kind os a.timers a.state a.net.now.used a.net.now.len x c.requires.0 why.result (why.ensures a.source a.value)
    (sym c.is_done.ensures ∙ c.if-not-is_done.false) in
    let z = c.settle in
    let k = c.store in
    let y = c.react_row-s in
    record {
      rows = rw (k.ensures.live, k.ensures.pend) (acted-stored a.me a.net.now.kind os a.timers a.state a.net.now.used a.net.now.len x c.requires.0 g.0 g.1
          (row-four a.row.now a.source a.value c.requires.1) y.result y.new.c a.source y.ensures
          (sym c.is_done-2.ensures ∙ c.if-not-is_done-2.false)
          z.new.self.live z.new.self.pend z.ensures.live
          (sym (c.requires.1.durable a.source a.value) ∙ eq-eqb _ _ c.if-row-eq1.true)
          k.new.self.kept k.new.self.stored k.ensures.kept);
      kind = refl;
    }

pub returns-else-row-eq1 : goal.returns-else-row-eq1
returns-else-row-eq1 c =
    let a = c.args in
    let os = orders a.row.now a.source a.value in
    let x : Rows = rows_in a.net.now.cells a.actor.now in
    let why = c.refusal_of-why in
    let g = enough a.me a.net.now.kind os a.timers a.state a.net.now.used a.net.now.len x c.requires.0 why.result (why.ensures a.source a.value)
    (sym c.is_done.ensures ∙ c.if-not-is_done.false) in
    let z = c.settle in
    let y = c.react_row-s in
    record {
      rows = rw (z.ensures.kept, z.ensures.stored) (acted-plain a.me a.net.now.kind os a.timers a.state a.net.now.used a.net.now.len x c.requires.0 g.0 g.1
          (row-four a.row.now a.source a.value c.requires.1) y.result y.new.c a.source y.ensures
          (sym c.is_done-2.ensures ∙ c.if-not-is_done-2.false)
          z.new.self.live z.new.self.pend z.ensures.live (sym (c.requires.1.durable a.source a.value) ∙ ne_eqb _ _ c.if-row-eq1.false));
      kind = refl;
    }
