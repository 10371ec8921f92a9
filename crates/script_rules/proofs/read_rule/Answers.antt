-- The count stands behind the other fields and says how many commands follow. Too many, or one that is stuck, leave no rule.
use mathlib.Core.Path.{refl, sym, ap, ◌∙◌}
use Rattle.std.specs.Prelude.{Ok, Err}
use Rattle.types.specs.declared.Rule.{Rule}
use Rattle.rules.specs.Script.{rule_form}
use Rattle.script_places.specs.Views.{same}
use Rattle.script_places.proofs.Laws.{record_at, no-record, part-back}
use Rattle.script_places.proofs.Says.{tells, failed, refused}
use Rattle.script_rules.proofs.Laws.{rule-at, rule-stuck, no-rule}
use Rattle.script_rules.proofs.read_rule.Goals as goal

pub returns-then-count-gt-MOST_COMMANDS : goal.returns-then-count-gt-MOST_COMMANDS
returns-then-count-gt-MOST_COMMANDS c =
    let a = c.args in
    let e = no-record same (rule_form a.f) a.script.now a.at c.from-s.ensures
    (no-rule _ a.f c.field8-count.ensures refl c.if-count-gt-MOST_COMMANDS.true) in
    record { value = e; says = tells same same (λ r. refl) _ e }

pub returns-in_err-commands : goal.returns-in_err-commands
returns-in_err-commands c =
    let a = c.args in
    let k = c.in_err-commands.ensures in
    let e = failed _ c.from_residual.ensures.1
    ∙ ap Err (refused k.value k.ok_part)
    ∙ no-record same (rule_form a.f) a.script.now a.at c.from-s.ensures
    (rule-stuck _ a.f c.field8-count.ensures refl c.if-count-gt-MOST_COMMANDS.false
    (part-back (sym k.ok_part ∙ c.commands_part.ensures.value))) in
    record { value = e; says = tells same same (λ r. refl) _ e }

pub returns-in_err-next : goal.returns-in_err-next
returns-in_err-next c =
    let a = c.args in
    let k = c.in_err-next.ensures in
    let e = failed _ c.from_residual-in_err-next.ensures.1
    ∙ ap Err (refused k.value k.ok_part)
    ∙ record_at same (rule_form a.f) a.script.now a.at c.from-s.ensures
    (rule-at _ a.f c.field8-count.ensures refl c.if-count-gt-MOST_COMMANDS.false
    (part-back (sym c.in_ok-commands.ensures.ok_part ∙ c.commands_part.ensures.value)))
    (sym k.ok_part ∙ c.end_of.ensures) in
    record { value = e; says = tells same same (λ r. refl) _ e }

pub returns : goal.returns
returns c =
    let a = c.args in
    let e = ap (λ (r : Rule). Ok (r, c.in_ok-next.next)) c.rule_of.ensures
    ∙ record_at same (rule_form a.f) a.script.now a.at c.from-s.ensures
    (rule-at _ a.f c.field8-count.ensures refl c.if-count-gt-MOST_COMMANDS.false
    (part-back (sym c.in_ok-commands.ensures.ok_part ∙ c.commands_part.ensures.value)))
    (sym c.in_ok-next.ensures.ok_part ∙ c.end_of.ensures) in
    record { value = e; says = tells same same (λ r. refl) _ e }
