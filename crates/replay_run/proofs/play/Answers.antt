-- What the search leaves open of `play`.
use native.Mathlib.Omega.{arith}
use mathlib.Core.Path.{refl, sym, ◌∙◌}
use Rattle.sys_moves.specs.Views.{sent_in}
use Rattle.replay_run.proofs.Actions.{as_case}
use Rattle.replay_run.proofs.Laws.{starts, going, move-fits, move-on, over, end_fits, turn_end, kept-length, no-bad}
use Rattle.replay_run.proofs.play.Goals as goal

pub loop-action-init : goal.loop-action-init
loop-action-init c = (refl, starts)

pub act_in-answer-requires : goal.act_in-answer-requires
act_in-answer-requires c = let v = c.loop-action.invariant in rw v.0 (v.1 c.requires).stands

pub returns-in_default : goal.returns-in_default
returns-in_default c = λ p. absurd (no-bad (c.loop-action.invariant.1 p).turn c.in_default.field-0 (sym c.in_default.ensures.value))

pub done_line-requires : goal.done_line-requires
done_line-requires c =
    let p = c.requires in
    let g = (c.loop-action.invariant.1 p).turn in
    let r = c.in-Ok.after in
    let e = as_case r c.in_default-action.is c.in-Ok.ensures.value in
    (end_fits g r e, omega (arith, g.wide, (over g r e).1, p.short))

pub returns-in_default-action : goal.returns-in_default-action
returns-in_default-action c =
    let r = c.in-Ok.after in
    let e = as_case r c.in_default-action.is c.in-Ok.ensures.value in
    let d = c.done_line.ensures in
    λ p. turn_end (c.loop-action.invariant.1 p).turn r e (record { next = d.next; bytes = d.bytes })

pub answer_line-end-requires : goal.answer_line-end-requires
answer_line-end-requires c =
    let p = c.requires in
    let g = c.loop-action.invariant.1 p in
    let a = c.in-Some.a in
    let r = c.in-Ok.after in
    let seen = as_case r c.in-Some.is c.in-Ok.ensures.value in
    let n = c.number_of-number.ensures in
    let m = c.act_in-answer in
    let go = going g.turn a r seen in (
      λ w. rw n (move-fits g a r seen (sent_in m.result m.new.net) _ _ (rw c.loop-action.invariant.0 at m.ensures.0) w),
      omega (arith, g.turn.wide, go.here, p.short),
    )

pub count-requires : goal.count-requires
count-requires c =
    let p = c.requires in
    let g = c.loop-action.invariant.1 p in
    let a = c.in-Some.a in
    let r = c.in-Ok.after in
    let seen = as_case r c.in-Some.is c.in-Ok.ensures.value in
    let go = going g.turn a r seen in
    omega (arith, g.turn.few, go.here, p.short)

pub loop-action-smaller : goal.loop-action-smaller
loop-action-smaller c =
    let p = c.requires in
    let g = c.loop-action.invariant.1 p in
    let a = c.in-Some.a in
    let r = c.in-Ok.after in
    let seen = as_case r c.in-Some.is c.in-Ok.ensures.value in
    let go = going g.turn a r seen in
    omega (arith, go.on, go.within)

pub loop-action-preserved : goal.loop-action-preserved
loop-action-preserved c =
    let a = c.in-Some.a in
    let r = c.in-Ok.after in
    let seen = as_case r c.in-Some.is c.in-Ok.ensures.value in
    let m = c.act_in-answer in
    let n = c.number_of-number.ensures in
    let e = c.answer_line-end.ensures in
    let v = c.loop-action.invariant.0 in (
      m.ensures.1 ∙ v,
      λ p. rw (c.count.ensures, n)
          (move-on (c.loop-action.invariant.1 p) a r seen (sent_in m.result m.new.net) _ _ (rw v at m.ensures.0)
          (rw (← n) (record { next = e.next; bytes = e.bytes })) e.short),
    )
