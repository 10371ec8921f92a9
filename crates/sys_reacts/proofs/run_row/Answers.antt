-- What the search leaves open of `run_row`.
use mathlib.Core.Path.{sym, ◌∙◌}
use mathlib.Core.List.{◌∷◌}
use lib.ListN.{take}
use Rattle.types.specs.declared.Message.TheVariants.{Ack}
use Rattle.rules.specs.Link.{Send}
use Rattle.link_direct.specs.Direct.{asked}
use Rattle.link_tables.specs.Rows.{orders}
use Rattle.sys_reacts.proofs.Deliver.{arrived-ready, tried-absent, tried-message, tried-plain, by-nothing, by-message}
use Rattle.sys_reacts.proofs.run_row.Goals as goal

pub returns-then-not-is_done : goal.returns-then-not-is_done
returns-then-not-is_done c =
    let a = c.args in
    let os = orders a.row.now a.source a.value in
    let x = c.on_deliver-s in
    let cmds = take a.limit (Send a.source (Ack c.in-Message.number) ∷ asked a.next os) in
    by-message a.kind a.me a.source a.c.now a.used a.len a.timers a.next a.limit os _ _ a.first c.in-Message.e c.in-Message.number c.in-Message.is
    (tried-absent a.kind c.in-Message.e a.c.now a.used a.len x.result x.new.c x.ensures a.me c.in-Message.number cmds
    a.timers a.next a.limit (sym c.is_done.ensures ∙ c.if-not-is_done.true))

pub acked_row-requires : goal.acked_row-requires
acked_row-requires c =
    let a = c.args in
    let x = c.on_deliver-s in
    (arrived-ready a.kind _ a.c.now a.used a.len x.result x.new.c x.ensures c.requires.0, c.requires.1, c.requires.2)

pub returns-in-Nothing : goal.returns-in-Nothing
returns-in-Nothing c =
    let a = c.args in
    let os = orders a.row.now a.source a.value in
    let x = c.emit in
    by-nothing a.kind a.me a.source a.c.now a.used a.len a.timers a.next a.limit os x.result x.new.c a.first
    c.in-Nothing.is
    (tried-plain a.kind a.me (take a.limit (asked a.next os)) a.c.now a.used a.len a.timers x.result x.new.c x.ensures)

pub returns-else-not-is_done : goal.returns-else-not-is_done
returns-else-not-is_done c =
    let a = c.args in
    let os = orders a.row.now a.source a.value in
    let x = c.on_deliver-s in
    let y = c.acked_row in
    let cmds = take a.limit (Send a.source (Ack c.in-Message.number) ∷ asked a.next os) in
    by-message a.kind a.me a.source a.c.now a.used a.len a.timers a.next a.limit os y.result y.new.c a.first
    c.in-Message.e c.in-Message.number c.in-Message.is
    (tried-message a.kind c.in-Message.e a.c.now a.used a.len x.result x.new.c x.ensures a.me c.in-Message.number cmds
    a.timers a.next a.limit (sym c.is_done.ensures ∙ c.if-not-is_done.false)
    y.result y.new.c y.ensures)
