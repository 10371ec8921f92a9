-- A system that fails the test is refused as 9. One that passes is laid out, so its parts are those of the rules.
use mathlib.Core.Path.{sym, ap, ◌∙◌}
use Rattle.answers.specs.Answers.{answer_of}
use Rattle.sys_answered.specs.Views.{answered_of}
use Rattle.sys_step.proofs.Laws.{fails, passes, fine-ready}
use Rattle.sys_step.proofs.step.Goals as goal

pub returns-then-not-well_formed : goal.returns-then-not-well_formed
unfolding answer_of
returns-then-not-well_formed c =
    let s = c.args in
    sym (ap (answered_of s.s) (fails s.s s.a (sym c.well_formed-2.ensures.value ∙ c.if-not-well_formed.true)))

pub act_on-requires : goal.act_on-requires
act_on-requires c =
    let s = c.args.s in
    fine-ready s (sym c.well_formed-2.ensures.value ∙ c.if-not-well_formed.false) (c.well_formed-2.ensures.laid c.if-not-well_formed.false)

pub returns : goal.returns
returns c =
    let s = c.args in
    c.act_on.ensures ∙ sym
    (ap (answered_of s.s) (passes s.s s.a (sym c.well_formed-2.ensures.value ∙ c.if-not-well_formed.false)))
