-- The count is its one field, and a record of so many bits.
use mathlib.Core.Path.{sym, ap, ◌∙◌}
use Rattle.std.specs.Prelude.{Err}
use Rattle.script_places.specs.Views.{same}
use Rattle.script_places.proofs.Laws.{record_at, no-record}
use Rattle.script_places.proofs.Says.{failed, refused}
use Rattle.script_records.proofs.Laws.{count_form, count_at, no-count}
use Rattle.script_records.proofs.read_count.Goals as goal

pub returns-then-most-count : goal.returns-then-most-count
returns-then-most-count c =
    let a = c.args in
    no-record same (count_form a.width a.most) a.script.now a.at c.from-s.ensures
    (no-count _ a.width a.most c.field-count.ensures c.if-most-count.true)

pub returns-in_err-next : goal.returns-in_err-next
returns-in_err-next c =
    let a = c.args in
    failed _ c.from_residual.ensures.1
    ∙ ap Err (refused c.in_err-next.ensures.value c.in_err-next.ensures.ok_part)
    ∙ record_at same (count_form a.width a.most) a.script.now a.at c.from-s.ensures
    (count_at _ a.width a.most c.field-count.ensures c.if-most-count.false) (sym c.in_err-next.ensures.ok_part ∙ c.end_of.ensures)

pub returns : goal.returns
returns c =
    let a = c.args in
    record_at same (count_form a.width a.most) a.script.now a.at c.from-s.ensures
    (count_at _ a.width a.most c.field-count.ensures c.if-most-count.false) (sym c.in_ok-next.ensures.ok_part ∙ c.end_of.ensures)
