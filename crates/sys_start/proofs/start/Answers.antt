-- `start` meets its contract: its stages are those of the rules.
-- Assumes nothing.
use mathlib.Core.Path.{refl, sym, ap, ◌∙◌}
use Rattle.types.specs.Capacities.{most_actors}
use Rattle.answers.specs.Answers.{answer_of}
use Rattle.rules.specs.Start.{blank}
use Rattle.sys_system.specs.Views.{system_of}
use Rattle.sys_answered.specs.Views.{answered_of}
use Rattle.sys_moves.specs.Views.{sent_in}
use Rattle.sys_start.proofs.Tests.{fine_of}
use Rattle.sys_start.proofs.First.{tables-say, tables-laid}
use Rattle.sys_start.proofs.Laws.{start-refused, start-full, start-wakes}
use Rattle.sys_start.proofs.start.Goals as goal

pub returns-then-not-startable : goal.returns-then-not-startable
unfolding answer_of
returns-then-not-startable c =
    let a = c.args in
    c.refused.ensures ∙ sym (ap (answered_of (system_of blank)) (start-refused a.kind a.count a.tables a.given
    (sym c.startable.ensures ∙ c.if-not-startable.true)))

pub fill-answer-requires : goal.fill-answer-requires
fill-answer-requires c =
    let a = c.args in (
      refl,
      refl,
      refl,
      (fine_of a.kind a.count a.tables a.given (tables-say most_actors a.tables _ c.well_formed.1.1.0).0
          (sym c.startable.ensures ∙ c.if-not-startable.false)).held,
    )

pub returns-then-not-is_done : goal.returns-then-not-is_done
returns-then-not-is_done c =
    let a = c.args in
    c.refused-then-not-is_done.ensures
    ∙ start-full a.kind a.count a.tables a.given c.kind_of.result c.kind_of.ensures
    (sym c.startable.ensures ∙ c.if-not-startable.false) (sent_in c.fill-answer.result c.fill-answer.new.net)
    c.fill-answer.new.net.cells c.fill-answer.ensures.0
    (sym c.is_done.ensures ∙ c.if-not-is_done.true)

pub wake_all-requires : goal.wake_all-requires
wake_all-requires c =
    let a = c.args in
    let y = tables-say most_actors a.tables _ c.well_formed.1.1.0 in
    let e = fine_of a.kind a.count a.tables a.given y.0 (sym c.startable.ensures ∙ c.if-not-startable.false) in
    record {
      net = rw c.fill-answer.ensures.1 c.fill-answer.ensures.0.net;
      room = c.fill-answer.ensures.0.room;
      few = e.few;
      fine = e.tables-ok;
      laid = tables-laid a.count a.tables y.1 e.tables-ok;
    }

pub returns : goal.returns
returns c =
    let a = c.args in
    rw c.fill-answer.ensures.1 at c.wake_all.ensures ∙ ap (answered_of (system_of blank))
    (start-wakes a.kind a.count a.tables a.given c.kind_of.result c.kind_of.ensures
    (sym c.startable.ensures ∙ c.if-not-startable.false) (sent_in c.fill-answer.result c.fill-answer.new.net)
    c.fill-answer.new.net.cells c.fill-answer.ensures.0
    (sym c.is_done.ensures ∙ c.if-not-is_done.false))
