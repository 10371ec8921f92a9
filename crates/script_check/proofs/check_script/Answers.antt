-- The length is tested first. Then the opening is read; where that is good, the layout is that of the actions behind it.
use mathlib.Core.Path.{sym, subst, ◌∙◌}
use Rattle.rules.specs.Script.{versions, Fine, opening_from, read_script}
use Rattle.rules.proofs.Formats.{formats-fine}
use Rattle.script_places.proofs.Says.{failed}
use Rattle.script_opening.specs.Views.{opening_held}
use Rattle.script_opening.proofs.Readings.{missed}
use Rattle.script_check.proofs.Whole.{opening-bad, opening-layout, not-long, too_long}
use Rattle.script_check.proofs.Says.{layout-tells}
use Rattle.script_check.proofs.check_script.Goals as goal

pub returns-then-script-gt-MOST_BYTES : goal.returns-then-script-gt-MOST_BYTES
returns-then-script-gt-MOST_BYTES c =
    let s = c.args.script.now in
    let e = sym (too_long versions s c.if-script-gt-MOST_BYTES.true) in
    record { value = e; says = layout-tells (read_script versions s) e }

pub returns-in_err-opening : goal.returns-in_err-opening
returns-in_err-opening c =
    let s = c.args.script.now in
    let e = failed _ c.from_residual.ensures.1
    ∙ sym (not-long versions s c.if-script-gt-MOST_BYTES.false
    ∙ opening-bad versions s (missed opening_held (opening_from versions) s 0 c.in_err-opening.ensures.value)) in
    record { value = e; says = layout-tells (read_script versions s) e }

pub check_actions-requires : goal.check_actions-requires
check_actions-requires c = subst Fine (sym c.format_of.ensures) (formats-fine _)

pub returns : goal.returns
returns c =
    let s = c.args.script.now in
    let e = c.check_actions.ensures
    ∙ opening-layout versions s c.in_ok-opening.ensures.value c.format_of.ensures
    ∙ sym (not-long versions s c.if-script-gt-MOST_BYTES.false) in
    record { value = e; says = layout-tells (read_script versions s) e }
