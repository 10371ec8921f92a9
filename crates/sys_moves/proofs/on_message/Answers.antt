-- What the search leaves open of `on_message`.
use mathlib.Core.Path.{refl, sym, ◌∙◌}
use Rattle.link_tables.specs.Rows.{orders}
use Rattle.link_tables.proofs.Told.{row-four}
use Rattle.sys_moves.specs.Views.{Rows, rows_in}
use Rattle.sys_rows.proofs.Laws.{timers-small}
use Rattle.sys_moves.proofs.Laws.{enough}
use Rattle.sys_moves.proofs.Taken.{taken_refused, taken-full, taken-done}
use borrow.Author.Rules.{rules}
use Rattle.sys_moves.proofs.on_message.Goals as goal

pub bounds-actor-0 : goal.bounds-actor-0
bounds-actor-0 c = let z = c.requires.0.live.room in search rules

pub bounds-actor-6 : goal.bounds-actor-6
bounds-actor-6 c = let z = c.requires.0.live.room in search rules

pub overflow_cast-timers : goal.overflow_cast-timers
overflow_cast-timers c = let z = timers-small c.args.actor.now.live c.args.actor.now.pend c.requires.0.live in search rules

pub refusal_of-why-requires : goal.refusal_of-why-requires
refusal_of-why-requires c = (c.requires.1, c.requires.0.live.room, c.requires.0.live.pending)

pub when_refused-requires : goal.when_refused-requires
when_refused-requires c = c.requires.0.net

pub returns-then-not-is_done : goal.returns-then-not-is_done
returns-then-not-is_done c =
    let a = c.args in
    let os = orders a.row.now a.e.src a.value in
    let x : Rows = rows_in a.net.now.cells a.actor.now in
    let why = c.refusal_of-why in
    let y = c.when_refused in
    record {
      rows = taken_refused a.net.now.kind a.e a.number os a.state a.net.now.used a.net.now.len x c.requires.0 why.result (why.ensures a.e.src a.value)
          (sym c.is_done.ensures ∙ c.if-not-is_done.true) y.result y.ensures a.net.now.cells refl;
      kind = refl;
    }

pub react_row-s-requires : goal.react_row-s-requires
react_row-s-requires c =
    let a = c.args in
    let os = orders a.row.now a.e.src a.value in
    let x : Rows = rows_in a.net.now.cells a.actor.now in
    let why = c.refusal_of-why in
    let g = enough a.e.dst a.net.now.kind os 0 a.state a.net.now.used a.net.now.len x c.requires.0 why.result (why.ensures a.e.src a.value)
    (sym c.is_done.ensures ∙ c.if-not-is_done.false) in
    (c.requires.0.net, c.requires.1, g.0, c.requires.0.room)

pub returns-then-not-is_done-2 : goal.returns-then-not-is_done-2
returns-then-not-is_done-2 c =
    let a = c.args in
    let os = orders a.row.now a.e.src a.value in
    let x : Rows = rows_in a.net.now.cells a.actor.now in
    let why = c.refusal_of-why in
    let g = enough a.e.dst a.net.now.kind os 0 a.state a.net.now.used a.net.now.len x c.requires.0 why.result (why.ensures a.e.src a.value)
    (sym c.is_done.ensures ∙ c.if-not-is_done.false) in
    let y = c.react_row-s in
    record {
      rows = taken-full a.net.now.kind a.e a.number os a.state a.net.now.used a.net.now.len x c.requires.0 g.0 g.1
          (row-four a.row.now a.e.src a.value c.requires.1) y.result y.new.c y.ensures
          (sym c.is_done-2.ensures ∙ c.if-not-is_done-2.true);
      kind = refl;
    }

pub take_in-requires : goal.take_in-requires
take_in-requires c =
    let a = c.args in
    let os = orders a.row.now a.e.src a.value in
    let x : Rows = rows_in a.net.now.cells a.actor.now in
    let why = c.refusal_of-why in
    let g = enough a.e.dst a.net.now.kind os 0 a.state a.net.now.used a.net.now.len x c.requires.0 why.result (why.ensures a.e.src a.value)
    (sym c.is_done.ensures ∙ c.if-not-is_done.false) in
    (c.requires.1, c.requires.0.live, c.requires.2, c.requires.3, g.1, g.0, c.requires.0.kept.places)

pub returns : goal.returns
returns c =
    let a = c.args in
    let os = orders a.row.now a.e.src a.value in
    let x : Rows = rows_in a.net.now.cells a.actor.now in
    let why = c.refusal_of-why in
    let g = enough a.e.dst a.net.now.kind os 0 a.state a.net.now.used a.net.now.len x c.requires.0 why.result (why.ensures a.e.src a.value)
    (sym c.is_done.ensures ∙ c.if-not-is_done.false) in
    let z = c.take_in in
    let y = c.react_row-s in
    record {
      rows = taken-done a.net.now.kind a.e a.number os a.state a.net.now.used a.net.now.len x c.requires.0 g.0 g.1
          (row-four a.row.now a.e.src a.value c.requires.1) y.result y.new.c y.ensures
          (sym c.is_done-2.ensures ∙ c.if-not-is_done-2.false)
          z.new.actor.live z.new.actor.pend z.ensures.0 z.new.actor.kept z.new.actor.stored z.ensures.1;
      kind = refl;
    }
