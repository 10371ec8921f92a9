-- The header is read first, and its version gives the format of the lists; each is read from where the one before it ends.
use mathlib.Core.Path.{sym, subst, ◌∙◌}
use Rattle.rules.specs.Script.{versions, Fine, opening_from}
use Rattle.rules.proofs.Formats.{formats-fine}
use Rattle.script_places.proofs.Says.{tells, failed}
use Rattle.script_opening.specs.Views.{opening_held}
use Rattle.script_opening.specs.Says.{opening_in}
use Rattle.script_opening.proofs.Says.{opening-back}
use Rattle.script_opening.proofs.Lists.{no_header, few_tables, no-tables, no-envelopes, all-read}
use Rattle.script_opening.proofs.read_opening.Goals as goal

pub returns-in_err-header : goal.returns-in_err-header
returns-in_err-header c =
    let s = c.args.script.now in
    let e = failed _ c.from_residual.ensures.1 ∙ no_header s c.in_err-header.ensures.value in
    record { value = e; says = tells opening_held opening_in opening-back (opening_from versions s 0) e }

pub read_tables-requires : goal.read_tables-requires
read_tables-requires c =
    (few_tables c.args.script.now c.in_ok-header.ensures.value c.format_of-f.ensures, subst Fine (sym c.format_of-f.ensures) (formats-fine _))

pub read_envelopes-requires : goal.read_envelopes-requires
read_envelopes-requires c = subst Fine (sym c.format_of-f.ensures) (formats-fine _)

pub returns-in_err-tables : goal.returns-in_err-tables
returns-in_err-tables c =
    let s = c.args.script.now in
    let e = failed _ c.from_residual-in_err-tables.ensures.1
    ∙ no-tables s c.in_ok-header.ensures.value c.format_of-f.ensures c.in_err-tables.ensures.value in
    record { value = e; says = tells opening_held opening_in opening-back (opening_from versions s 0) e }

pub returns-in_err-envelopes : goal.returns-in_err-envelopes
returns-in_err-envelopes c =
    let s = c.args.script.now in
    let e = failed _ c.from_residual-in_err-envelopes.ensures.1
    ∙ no-envelopes s c.in_ok-header.ensures.value c.format_of-f.ensures c.in_ok-tables.ensures.value c.in_err-envelopes.ensures.value in
    record { value = e; says = tells opening_held opening_in opening-back (opening_from versions s 0) e }

pub returns : goal.returns
returns c =
    let s = c.args.script.now in
    let e = all-read s c.in_ok-header.ensures.value c.format_of-f.ensures c.in_ok-tables.ensures.value c.in_ok-envelopes.ensures.value in
    record { value = e; says = tells opening_held opening_in opening-back (opening_from versions s 0) e }
