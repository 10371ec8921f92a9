-- Source and destination stand before the message; where that is stuck, so is the envelope.
use mathlib.Core.Path.{refl, sym, ap, ◌∙◌}
use Rattle.script_places.proofs.Laws.{part-back}
use Rattle.script_records.specs.Views.{envelope_part}
use Rattle.script_records.proofs.Laws.{envelope-at, no-envelope}
use Rattle.script_records.proofs.envelope_part.Goals as goal

pub returns-in_err-msg-clause-by_index : goal.returns-in_err-msg-clause-by_index
returns-in_err-msg-clause-by_index c xs h =
    let a = c.args in
    c.from_residual.ensures
    ∙ sym (ap envelope_part
    (no-envelope xs a.f a.at (c.cut8-src.ensures xs h) (c.cut8-dst.ensures xs h) refl (part-back (c.in_err-msg.ensures.by_index xs h))))

pub returns-clause-by_index : goal.returns-clause-by_index
returns-clause-by_index c xs h =
    let a = c.args in
    sym (ap envelope_part
    (envelope-at xs a.f a.at (c.cut8-src.ensures xs h) (c.cut8-dst.ensures xs h) refl (part-back (c.in_ok-msg.ensures.by_index xs h))))
