-- What the search leaves open of `emit_one`.
use mathlib.Core.Path.{ap, ◌∙◌}
use Rattle.link_timers.specs.declared.Change.{Change}
use Rattle.link_timers.specs.Views.{listed}
use Rattle.link_timers.proofs.Listed.{listed-set, listed-cancel}
use Rattle.link_direct.proofs.Laws.{sends-one}
use Rattle.sys_emits.proofs.Laws.{went-set, went-cancel, went-save, went-send}
use borrow.Author.Rules.{rules}
use Rattle.sys_emits.proofs.emit_one.Goals as goal

pub overflow_add-result : goal.overflow_add-result
overflow_add-result c =
    let z = sends-one c.args.x _ _ c.in-Send.is in
    search rules

pub returns-in-SetTimer : goal.returns-in-SetTimer
returns-in-SetTimer c =
    went-set c.args.kind c.args.me c.args.x c.args.c.now c.args.used c.args.len c.args.timers c.args.next c.args.left
    c.requires.0 c.requires.1 _ c.in-SetTimer.is _
    (ap (λ (h : Change). listed h.timers.0) c.set-h.ensures ∙ listed-set _ _)

pub returns-in-CancelTimer : goal.returns-in-CancelTimer
returns-in-CancelTimer c =
    went-cancel c.args.kind c.args.me c.args.x c.args.c.now c.args.used c.args.len c.args.timers c.args.next c.args.left
    c.requires.0 c.requires.1 _ c.in-CancelTimer.is _
    (ap (λ (h : Change). listed h.timers.0) c.cancel-h.ensures ∙ listed-cancel _ _)

pub returns-in-Save : goal.returns-in-Save
returns-in-Save c =
    went-save c.args.kind c.args.me c.args.x c.args.c.now c.args.used c.args.len c.args.timers c.args.next c.args.left
    c.requires.0 c.requires.1 _ c.in-Save.is

pub returns-in-Send : goal.returns-in-Send
returns-in-Send c =
    went-send c.args.kind c.args.me c.args.x c.args.c.now c.args.used c.args.len c.args.timers c.args.next c.args.left
    c.requires.0 c.requires.1 _ _ c.in-Send.is c.send-s.result c.send-s.new.c
    c.send-s.ensures
