-- The tag picks what follows it. There is no third tag.
use native.Mathlib.Omega.{arith}
use mathlib.Core.Path.{refl, sym, ap}
use Rattle.script_records.specs.Views.{message_part}
use Rattle.script_records.proofs.Laws.{deliver-at, ack-at, no-message}
use Rattle.script_records.proofs.message_part.Goals as goal

pub returns-in-0-clause-by_index : goal.returns-in-0-clause-by_index
returns-in-0-clause-by_index c xs h =
    let a = c.args in
    sym (ap message_part
    (deliver-at xs a.f a.at refl refl (omega (arith, c.cut8-tag.ensures xs h)) (c.cut-number.ensures.cuts xs h) (c.cut32-payload.ensures xs h) refl))

pub returns-in-1-clause-by_index : goal.returns-in-1-clause-by_index
returns-in-1-clause-by_index c xs h =
    let a = c.args in
    sym (ap message_part (ack-at xs a.f a.at refl refl (omega (arith, c.cut8-tag.ensures xs h)) (c.cut-number.ensures.cuts xs h)))

pub returns-in_default-clause-by_index : goal.returns-in_default-clause-by_index
returns-in_default-clause-by_index c xs h =
    let a = c.args in sym (ap message_part (no-message xs a.f a.at (omega (arith, c.cut8-tag.ensures xs h))))
