-- The kind picks the fields that follow it. They stand one behind another, and there is no fifth kind.
use native.Mathlib.Omega.{arith}
use mathlib.Core.Path.{refl, sym, ap}
use Rattle.script_rules.specs.Views.{command_part}
use Rattle.script_rules.proofs.Laws.{set_at, cancel-at, IsSend-at, save-at, no-command}
use Rattle.script_rules.proofs.command_part.Goals as goal

pub returns-in-0-clause-value : goal.returns-in-0-clause-value
returns-in-0-clause-value c =
    let a = c.args in
    sym (ap command_part (set_at a.s.now a.f a.at refl (omega (arith, c.field8-kind.ensures)) c.field8-timer.ensures refl))

pub returns-in-1-clause-value : goal.returns-in-1-clause-value
returns-in-1-clause-value c =
    let a = c.args in
    sym (ap command_part (cancel-at a.s.now a.f a.at refl (omega (arith, c.field8-kind.ensures)) c.field8-timer-in-1.ensures refl))

pub returns-in-2-clause-value : goal.returns-in-2-clause-value
returns-in-2-clause-value c =
    let a = c.args in
    sym (ap command_part
    (IsSend-at a.s.now a.f a.at refl (omega (arith, c.field8-kind.ensures))
    c.field8-source.ensures c.field8-dst.ensures c.field8-echo.ensures c.field32-payload.ensures refl))

pub returns-in-3-clause-value : goal.returns-in-3-clause-value
returns-in-3-clause-value c =
    let a = c.args in
    sym (ap command_part
    (save-at a.s.now a.f a.at refl (omega (arith, c.field8-kind.ensures)) c.field8-echo-in-3.ensures
    c.field32-value.ensures refl))

pub returns-in_default-clause-value : goal.returns-in_default-clause-value
returns-in_default-clause-value c =
    let a = c.args in sym (ap command_part (no-command a.s.now a.f a.at (omega (arith, c.field8-kind.ensures))))
