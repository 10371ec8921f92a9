-- Put back after an 8, or no copy where there is room.
-- Assumes nothing.
use native.Mathlib.Omega.{arith}
use mathlib.Core.Path.{sym, ◌∙◌}
use mathlib.Core.List.{map}
use lib.ListN.{take}
use Rattle.rules.specs.Link.{resent}
use Rattle.link_rows.specs.Rows.{pending_in}
use Rattle.sys_reacts.specs.declared.First.TheVariants.{Nothing}
use Rattle.sys_reacts.proofs.Deliver.{tried-plain, safe-done, safe-back, safe-roomy}
use Rattle.sys_resends.proofs.Laws.{few-resent}
use borrow.Author.Rules.{rules}
use Rattle.sys_resends.proofs.resend_all.Goals as goal

pub roomy-requires : goal.roomy-requires
roomy-requires c = let z = c.requires.0.laid.fit in search rules

pub returns-then-roomy : goal.returns-then-roomy
returns-then-roomy c =
    let a = c.args in
    let x = c.resend in
    let cmds = take a.limit (resent (map pending_in (take a.n a.pend.now))) in
    let few = few-resent a.pend.now a.n a.limit c.requires.1 in
    let r = c.roomy.ensures c.if-roomy.true in
    let y = c.requires.3 in
    safe-roomy a.kind a.me Nothing cmds a.c.now a.used a.len a.timers c.requires.0 x.result x.new.c
    (tried-plain a.kind a.me cmds a.c.now a.used a.len a.timers x.result x.new.c x.ensures) (omega (arith, r.0))
    (omega (arith, r.1))

pub returns-then-is_done : goal.returns-then-is_done
returns-then-is_done c =
    let a = c.args in
    let x = c.resend-s in
    let cmds = take a.limit (resent (map pending_in (take a.n a.pend.now))) in
    safe-done a.kind a.me Nothing cmds a.c.now a.used a.len a.timers c.requires.0 x.result x.new.c
    (tried-plain a.kind a.me cmds a.c.now a.used a.len a.timers x.result x.new.c x.ensures)
    (sym c.is_done.ensures ∙ c.if-is_done.true)

pub returns : goal.returns
returns c =
    let a = c.args in
    let x = c.resend-s in
    let cmds = take a.limit (resent (map pending_in (take a.n a.pend.now))) in
    safe-back a.kind a.me Nothing cmds a.c.now a.used a.len a.timers c.requires.0 x.result x.new.c
    (tried-plain a.kind a.me cmds a.c.now a.used a.len a.timers x.result x.new.c x.ensures)
    (sym c.is_done.ensures ∙ c.if-is_done.false) 0 a.limit
