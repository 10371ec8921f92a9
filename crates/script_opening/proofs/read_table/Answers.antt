-- The count is read first; so many rules follow it.
use mathlib.Core.Path.{sym, ap, ◌∙◌}
use borrow.Author.Rules.{rules, lives}
use lib.ListN.{drop}
use Rattle.std.specs.Prelude.{Ok}
use Rattle.lists.specs.Lists.{pad}
use Rattle.layout.specs.Read.{one, repeat}
use Rattle.types.specs.Capacities.{most_rules}
use Rattle.types.specs.declared.Rule.{Rule}
use Rattle.rules.specs.Script.{rule_count_form, rule_form, table_from}
use Rattle.link_inner.specs.Views.{rules_of, table_as}
use Rattle.script_places.specs.Views.{same}
use Rattle.script_places.proofs.Says.{tells, failed}
use Rattle.script_opening.specs.Views.{Kept, table_read}
use Rattle.script_opening.proofs.Readings.{found_is, found_same, missed, then_read, then_bad, few-rules}
use Rattle.script_opening.proofs.Kept.{kept-one, kept-repeat, repeat-length}
use Rattle.script_opening.proofs.Says.{table_back}
use Rattle.script_opening.proofs.read_table.Goals as goal

pub returns-in_err-used : goal.returns-in_err-used
unfolding table_from
returns-in_err-used c =
    let a = c.args in
    let e = failed _ c.from_residual.ensures.1
    ∙ sym (ap table_read (then_bad _ (missed same (one rule_count_form) a.script.now a.at c.in_err-used.ensures.value))) in
    record { value = e; says = tells table_as rules_of table_back _ e }

pub read_many-requires : goal.read_many-requires
read_many-requires c = λ k h.
    let a = c.args in
    let n = found_same (one rule_count_form) a.script.now a.at (kept-one rule_count_form) c.in_ok-used.ensures.value in
    let room = few-rules (drop a.at a.script.now) a.at n in
    let kept : Kept (one (rule_form a.f)) = kept-one (rule_form a.f) in
    (search lives, (search lives, (search lives depth 12, search (rules, room, kept) parts 12)))

pub returns-in_err-rules : goal.returns-in_err-rules
unfolding table_from
returns-in_err-rules c =
    let a = c.args in
    let n = found_same (one rule_count_form) a.script.now a.at (kept-one rule_count_form) c.in_ok-used.ensures.value in
    let r = c.in_ok-used in
    let e = failed _ c.from_residual-in_err-rules.ensures.1
    ∙ sym (ap table_read (then_read _ n
    ∙ missed (pad most_rules c.zero_rule.result) (repeat r.used (one (rule_form a.f))) a.script.now r.first c.in_err-rules.ensures)) in
    record { value = e; says = tells table_as rules_of table_back _ e }

pub returns : goal.returns
unfolding table_from
returns c =
    let a = c.args in
    let n = found_same (one rule_count_form) a.script.now a.at (kept-one rule_count_form) c.in_ok-used.ensures.value in
    let r = c.in_ok-used in
    let m = repeat r.used (one (rule_form a.f)) in
    let w = found_is (pad most_rules c.zero_rule.result) m a.script.now r.first
    (kept-repeat r.used (one (rule_form a.f)) (kept-one (rule_form a.f))) c.in_ok-rules.ensures in
    let l = w.told ∙ ap (λ (z : Rule). pad most_rules z w.value) c.zero_rule.ensures in
    let u = sym (repeat-length (one (rule_form a.f)) r.used (drop r.first a.script.now) r.first w.reads) in
    let e = (λ i. Ok (record { rules = l i; used = u i }, c.in_ok-rules.next)) ∙ sym (ap table_read (then_read _ n ∙ w.reads)) in
    record { value = e; says = tells table_as rules_of table_back _ e }
