-- Its four fields lead the form to the header, or to nothing where a test fails; then it ends after 16 bits.
use mathlib.Core.Path.{sym, ap, ◌∙◌}
use Rattle.std.specs.Prelude.{Err}
use Rattle.rules.specs.Script.{versions, header_form}
use Rattle.script_places.proofs.Laws.{record_at, no-record}
use Rattle.script_places.proofs.Says.{failed, refused}
use Rattle.script_records.specs.Views.{header_held}
use Rattle.script_records.proofs.Laws.{header_at, no_header}
use Rattle.script_records.proofs.Says.{header-tells}
use Rattle.script_records.proofs.read_header.Goals as goal

pub returns-then-not-header_fits : goal.returns-then-not-header_fits
returns-then-not-header_fits c =
    let a = c.args in
    let e = no-record header_held (header_form versions) a.script.now a.at c.from-s.ensures
    (no_header _ versions c.field8-version.ensures c.field8-kind.ensures c.field8-actors.ensures c.field8-zero.ensures
    (sym c.header_fits.ensures ∙ c.if-not-header_fits.true)) in
    record { value = e; says = header-tells _ e }

pub returns-in_err-next : goal.returns-in_err-next
returns-in_err-next c =
    let a = c.args in
    let e = failed _ c.from_residual.ensures.1
    ∙ ap Err (refused c.in_err-next.ensures.value c.in_err-next.ensures.ok_part)
    ∙ record_at header_held (header_form versions) a.script.now a.at c.from-s.ensures
    (header_at _ versions c.field8-version.ensures c.field8-kind.ensures c.field8-actors.ensures c.field8-zero.ensures
    (sym c.header_fits.ensures ∙ c.if-not-header_fits.false)) (sym c.in_err-next.ensures.ok_part ∙ c.end_of.ensures) in
    record { value = e; says = header-tells _ e }

pub returns : goal.returns
returns c =
    let a = c.args in
    let e = record_at header_held (header_form versions) a.script.now a.at c.from-s.ensures
    (header_at _ versions c.field8-version.ensures c.field8-kind.ensures c.field8-actors.ensures c.field8-zero.ensures
    (sym c.header_fits.ensures ∙ c.if-not-header_fits.false)) (sym c.in_ok-next.ensures.ok_part ∙ c.end_of.ensures) in
    record { value = e; says = header-tells _ e }
