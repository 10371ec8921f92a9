-- What the search leaves open of `states_from`.
use native.Mathlib.Omega.{arith}
use mathlib.Core.Path.{sym, ap, ◌∙◌}
use Rattle.std.specs.Prelude.{Option, Ok}
use Rattle.types.specs.declared.Action.{Action}
use Rattle.script_check.proofs.Actions.{act-read, span}
use Rattle.test_states.proofs.states_from.Goals as goal

pub loop-action-smaller : goal.loop-action-smaller
loop-action-smaller c =
    let l = c.loop-action in
    let a = c.args in
    let r = c.in-Ok.after in
    let w = span a.f a.script.now l.at r
    (act-read a.f a.script.now l.at (ap (λ (x : Option Action). Ok (x, r)) (sym c.in-Some.is) ∙ c.in-Ok.ensures.value)) in
    omega (arith, w.0, w.1, w.2)
