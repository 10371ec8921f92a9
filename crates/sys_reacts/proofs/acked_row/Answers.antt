-- What the search leaves open of `acked_row`.
use native.Mathlib.Omega.{arith}
use mathlib.Core.Path.{sym, ◌∙◌}
use Rattle.link_tables.specs.Rows.{orders}
use Rattle.sys_reacts.proofs.Laws.{ran-none, acked-ready, ran-unacked, ran-acked}
use Rattle.sys_reacts.proofs.acked_row.Goals as goal

pub returns-then-limit-eq0 : goal.returns-then-limit-eq0
returns-then-limit-eq0 c =
    let a = c.args in
    let os = orders a.row.now a.source a.value in
    ran-none a.kind a.me a.source a.number a.c.now a.used a.len a.timers a.next a.limit c.requires.0 os c.if-limit-eq0.true

pub returns-then-not-is_done : goal.returns-then-not-is_done
returns-then-not-is_done c =
    let a = c.args in
    let os = orders a.row.now a.source a.value in
    let x = c.send-s in
    ran-unacked a.kind a.me a.source a.number a.c.now a.used a.len a.timers a.next a.limit c.requires.0 os
    (omega arith) x.result x.new.c x.ensures (sym c.is_done.ensures ∙ c.if-not-is_done.true)

pub emit-requires : goal.emit-requires
emit-requires c =
    let a = c.args in
    let os = orders a.row.now a.source a.value in
    let x = c.send-s in (
      acked-ready a.kind a.me a.source a.number a.c.now a.used a.len a.timers a.next a.limit c.requires.0 os
          (omega arith) x.result x.new.c x.ensures,
      c.requires.1,
      c.requires.2,
    )

pub returns : goal.returns
returns c =
    let a = c.args in
    let os = orders a.row.now a.source a.value in
    let x = c.send-s in
    let y = c.emit in
    ran-acked a.kind a.me a.source a.number a.c.now a.used a.len a.timers a.next a.limit c.requires.0 os
    (omega (arith, c.if-limit-eq0.false)) x.result x.new.c x.ensures
    (sym c.is_done.ensures ∙ c.if-not-is_done.false) y.result y.new.c y.ensures
