-- What the search leaves open of `start`.
use native.Mathlib.Omega.{arith}
use Rattle.sys_rows.specs.Rows.{listed_rules}
use Rattle.sys_moves.specs.Views.{Rows, rows_in, sent_in}
use Rattle.sys_rows.proofs.Laws.{timers-small}
use Rattle.sys_wake.specs.Starts.{saved_in}
use Rattle.sys_wake.proofs.Loads.{starts_by, few-events}
use Rattle.sys_wake.proofs.Wakes.{woken-by}
use borrow.Author.Rules.{rules}
use Rattle.sys_wake.proofs.start.Goals as goal

pub overflow_cast-actor : goal.overflow_cast-actor
overflow_cast-actor c =
    let z = timers-small c.args.actor.now.live c.args.actor.now.pend c.requires.0.live in
    search rules

pub start_row-row-requires : goal.start_row-row-requires
start_row-row-requires c =
    let e = c.start_event-event.ensures in
    let z = few-events (saved_in c.args.actor.now.live) in
    (c.requires.1, omega arith)

pub by_rule-requires : goal.by_rule-requires
by_rule-requires c =
    let a = c.args in
    let st = starts_by a.table.now.rows a.table.now.used c.requires.1 (saved_in a.actor.now.live) c.start_event-event.result c.start_value-value.result
    c.start_row-row.result c.start_event-event.ensures c.start_value-value.ensures c.start_row-row.ensures in
    let z = st.laid.next in
    (c.requires.0, st.laid, omega arith)

pub returns : goal.returns
returns c =
    let a = c.args in
    let x : Rows = rows_in a.net.now.cells a.actor.now in
    let st = starts_by a.table.now.rows a.table.now.used c.requires.1 (saved_in a.actor.now.live) c.start_event-event.result c.start_value-value.result
    c.start_row-row.result c.start_event-event.ensures c.start_value-value.ensures c.start_row-row.ensures in
    let g = c.by_rule in
    λ count. record {
      rows = woken-by a.me a.net.now.kind a.net.now.used a.net.now.len (listed_rules a.table.now) x c.with_network-timers.result
          c.with_network-timers.ensures c.requires.2 c.start_row-row.result c.start_value-value.result st count (sent_in g.result g.new.net)
          (rows_in g.new.net.cells g.new.actor) g.ensures.rows;
      kind = g.ensures.kind;
    }
