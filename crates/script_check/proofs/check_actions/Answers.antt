-- What the search leaves open of `check_actions`.
use Prim.Native.Nat.{ℕ}
use native.Mathlib.Omega.{arith}
use mathlib.Core.Path.{◌≡◌, sym, ap, ◌∙◌}
use Rattle.std.proofs.Common.{rules}
use Rattle.std.specs.Prelude.{Option, Result, Ok, Err}
use Rattle.types.specs.declared.Action.{Action}
use Rattle.script_places.specs.declared.BadAt.{BadAt}
use Rattle.script_places.proofs.Says.{failed}
use Rattle.script_check.proofs.Actions.{layout-act, layout-end, layout-more, layout-bad}
use Rattle.script_check.proofs.check_actions.Goals as goal

-- what was read, by the case that it is
known : {a b : Option Action} (q : ℕ) {m : Result (Option Action × ℕ) BadAt} → a ≡ b → Ok (a, q) ≡ m → Ok (b, q) ≡ m
known q e h = ap (λ (x : Option Action). Ok (x, q)) (sym e) ∙ h

pub returns-in_err-action : goal.returns-in_err-action
returns-in_err-action c =
    let l = c.loop-action in
    let a = c.args in
    let e : c.read_action.result ≡ Err c.in_err-action.field-0.0 = search rules in
    failed _ c.from_residual.ensures.1 ∙ sym (l.invariant ∙ layout-bad a.f a.script.now l.at (sym e ∙ c.read_action.ensures.value))

pub loop-action-smaller : goal.loop-action-smaller
loop-action-smaller c =
    let l = c.loop-action in
    let a = c.args in
    let r = c.in_ok-action in
    let e : c.read_action.result ≡ Ok (r.action, r.next) = search rules in
    let w = layout-act a.f a.script.now l.at (known r.next c.in-Some.is (sym e ∙ c.read_action.ensures.value)) in
    omega (arith, w.1, w.2, w.3)

pub loop-action-preserved : goal.loop-action-preserved
loop-action-preserved c =
    let l = c.loop-action in
    let a = c.args in
    let r = c.in_ok-action in
    let e : c.read_action.result ≡ Ok (r.action, r.next) = search rules in
    l.invariant ∙ (layout-act a.f a.script.now l.at (known r.next c.in-Some.is (sym e ∙ c.read_action.ensures.value))).0

pub returns-in-None : goal.returns-in-None
returns-in-None c =
    let l = c.loop-action in
    let a = c.args in
    let r = c.in_ok-action in
    let e : c.read_action.result ≡ Ok (r.action, r.next) = search rules in
    sym (l.invariant ∙ layout-end a.f a.script.now l.at (known r.next c.in-None.is (sym e ∙ c.read_action.ensures.value)) c.if-next-script.true)

pub returns-in-None-2 : goal.returns-in-None-2
returns-in-None-2 c =
    let l = c.loop-action in
    let a = c.args in
    let r = c.in_ok-action in
    let e : c.read_action.result ≡ Ok (r.action, r.next) = search rules in
    sym (l.invariant ∙ layout-more a.f a.script.now l.at (known r.next c.in-None-2.is (sym e ∙ c.read_action.ensures.value)) c.if-next-script.false)
