-- What the search leaves open of `react_row`.
use native.Mathlib.Omega.{arith}
use mathlib.Core.Path.{sym, ◌∙◌}
use mathlib.Core.List.{◌++◌}
use lib.ListN.{get_or, take}
use Rattle.link_direct.specs.Direct.{asked}
use Rattle.link_tables.specs.Rows.{orders}
use Rattle.link_tables.proofs.Told.{row-sends}
use Rattle.sys_reacts.specs.Views.{front_of}
use Rattle.sys_reacts.proofs.Laws.{few-sent}
use Rattle.sys_reacts.proofs.Deliver.{safe-done, safe-back, safe-roomy}
use borrow.Author.Rules.{rules}
use Rattle.sys_reacts.proofs.react_row.Goals as goal

pub bounds-row-14 : goal.bounds-row-14
bounds-row-14 c = let z = c.requires.1.room in search rules

pub overflow_add-n : goal.overflow_add-n
overflow_add-n c =
    let a = c.args in
    let os = orders a.row.now a.source a.value in
    let z = row-sends a.row.now a.source a.value c.requires.1 in
    let y = c.requires.1.sends a.source a.value in
    search rules

pub roomy-requires : goal.roomy-requires
roomy-requires c = let z = c.requires.0.laid.fit in let y = c.requires.3 in search rules

pub returns-then-roomy : goal.returns-then-roomy
returns-then-roomy c =
    let a = c.args in
    let os = orders a.row.now a.source a.value in
    let f = few-sent a.source a.first a.next a.limit (get_or a.row.now 14 0) os (c.requires.1.sends a.source a.value) in
    let r = c.roomy.ensures c.if-roomy.true in
    let y = c.requires.3 in
    let cmds = take a.limit (front_of a.source a.first ++ asked a.next os) in
    safe-roomy a.kind a.me a.first cmds a.c.now a.used a.len a.timers c.requires.0
    c.run_row.result c.run_row.new.c c.run_row.ensures (omega (arith, r.0)) (omega (arith, r.1))

pub returns-then-is_done : goal.returns-then-is_done
returns-then-is_done c =
    let a = c.args in
    let os = orders a.row.now a.source a.value in
    let cmds = take a.limit (front_of a.source a.first ++ asked a.next os) in
    safe-done a.kind a.me a.first cmds a.c.now a.used a.len a.timers c.requires.0
    c.run_row-s.result c.run_row-s.new.c c.run_row-s.ensures
    (sym c.is_done.ensures ∙ c.if-is_done.true)

pub returns : goal.returns
returns c =
    let a = c.args in
    let os = orders a.row.now a.source a.value in
    let cmds = take a.limit (front_of a.source a.first ++ asked a.next os) in
    safe-back a.kind a.me a.first cmds a.c.now a.used a.len a.timers c.requires.0
    c.run_row-s.result c.run_row-s.new.c c.run_row-s.ensures
    (sym c.is_done.ensures ∙ c.if-is_done.false) a.next a.limit
