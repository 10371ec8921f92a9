-- The kind picks the fields that follow it: an envelope, an id, an id and a timer, or nothing. A kind that the format does not have is stuck.
use native.Mathlib.Omega.{arith}
use mathlib.Core.Path.{sym, ap}
use Rattle.script_records.specs.Views.{action_part}
use Rattle.script_records.proofs.Laws.{no_kind, kind-past, deliver-act, drop-act, no-act, end-kind, timeout-kind, crash-kind, recover-kind}
use Rattle.script_records.proofs.action_part.Goals as goal

pub returns-then-f-kind-clause-by_index : goal.returns-then-f-kind-clause-by_index
returns-then-f-kind-clause-by_index c xs h =
    let a = c.args in sym (ap action_part (no_kind xs a.f (c.cut8-kind.ensures xs h) c.if-f-kind.true))

pub returns-in-0-clause-by_index : goal.returns-in-0-clause-by_index
returns-in-0-clause-by_index c xs h =
    let a = c.args in sym (ap action_part (end-kind xs a.f (c.cut8-kind.ensures xs h) c.if-f-kind.false (omega arith)))

pub returns-in-None-clause-by_index : goal.returns-in-None-clause-by_index
returns-in-None-clause-by_index c xs h =
    let a = c.args in
    sym (ap action_part
    (no-act xs a.f (c.cut8-kind.ensures xs h) c.if-f-kind.false (c.in-None.ensures.by_index xs h) (omega arith) (omega arith)))

pub returns-then-kind-eq1-clause-by_index : goal.returns-then-kind-eq1-clause-by_index
returns-then-kind-eq1-clause-by_index c xs h =
    let a = c.args in
    sym (ap action_part
    (deliver-act xs a.f (c.cut8-kind.ensures xs h) c.if-f-kind.false (c.in-Some.ensures.by_index xs h) (omega arith)))

pub returns-else-kind-eq1-clause-by_index : goal.returns-else-kind-eq1-clause-by_index
returns-else-kind-eq1-clause-by_index c xs h =
    let a = c.args in
    sym (ap action_part
    (drop-act xs a.f (c.cut8-kind.ensures xs h) c.if-f-kind.false (c.in-Some.ensures.by_index xs h) (omega arith)))

pub returns-in-3-clause-by_index : goal.returns-in-3-clause-by_index
returns-in-3-clause-by_index c xs h =
    let a = c.args in
    sym (ap action_part
    (timeout-kind xs a.f (c.cut8-kind.ensures xs h) c.if-f-kind.false (omega arith) (c.cut8-id.ensures xs h) (c.cut8-timer.ensures xs h)))

pub returns-in-4-clause-by_index : goal.returns-in-4-clause-by_index
returns-in-4-clause-by_index c xs h =
    let a = c.args in
    sym (ap action_part (crash-kind xs a.f (c.cut8-kind.ensures xs h) c.if-f-kind.false (omega arith) (c.cut8-id-in-4.ensures xs h)))

pub returns-in-5-clause-by_index : goal.returns-in-5-clause-by_index
returns-in-5-clause-by_index c xs h =
    let a = c.args in
    sym (ap action_part (recover-kind xs a.f (c.cut8-kind.ensures xs h) c.if-f-kind.false (omega arith) (c.cut8-id-in-5.ensures xs h)))

pub returns-in_default-clause-by_index : goal.returns-in_default-clause-by_index
returns-in_default-clause-by_index c xs h =
    let a = c.args in
    let l = c.if-f-kind.false in
    sym (ap action_part (kind-past xs a.f (c.cut8-kind.ensures xs h) l (omega arith)))
