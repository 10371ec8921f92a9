-- The action's part from the place on, and its end.
use mathlib.Core.Path.{refl}
use Rattle.rules.specs.Script.{action_form}
use Rattle.script_places.proofs.Laws.{record_at, no-record}
use Rattle.script_records.specs.Views.{action_held}
use Rattle.script_records.proofs.Laws.{stand, action-back}
use Rattle.script_records.proofs.Says.{action-tells}
use Rattle.script_records.proofs.read_action.Goals as goal

pub returns-in-Some : goal.returns-in-Some
returns-in-Some c =
    let a = c.args in
    let k = action-back (c.in-Act.ensures.by_index _ (stand a.script.now a.at c.from-s.ensures c.word-w.ensures c.word-v.ensures)) in
    let e = record_at action_held (action_form a.f) a.script.now a.at refl k c.in-Some.ensures in
    record { value = e; says = action-tells _ e }

pub returns-in_default : goal.returns-in_default
returns-in_default c =
    let a = c.args in
    let k = action-back (c.in-Act.ensures.by_index _ (stand a.script.now a.at c.from-s.ensures c.word-w.ensures c.word-v.ensures)) in
    let e = record_at action_held (action_form a.f) a.script.now a.at refl k c.in_default.ensures in
    record { value = e; says = action-tells _ e }

pub returns-in-Some-end_in : goal.returns-in-Some-end_in
returns-in-Some-end_in c =
    let a = c.args in
    let k = action-back (c.in-End.ensures.by_index _ (stand a.script.now a.at c.from-s.ensures c.word-w.ensures c.word-v.ensures)) in
    let e = record_at action_held (action_form a.f) a.script.now a.at refl k c.in-Some-end_in.ensures in
    record { value = e; says = action-tells _ e }

pub returns-in_default-end_in : goal.returns-in_default-end_in
returns-in_default-end_in c =
    let a = c.args in
    let k = action-back (c.in-End.ensures.by_index _ (stand a.script.now a.at c.from-s.ensures c.word-w.ensures c.word-v.ensures)) in
    let e = record_at action_held (action_form a.f) a.script.now a.at refl k c.in_default-end_in.ensures in
    record { value = e; says = action-tells _ e }

pub returns-in-Stuck : goal.returns-in-Stuck
returns-in-Stuck c =
    let a = c.args in
    let k = action-back (c.in-Stuck.ensures.by_index _ (stand a.script.now a.at c.from-s.ensures c.word-w.ensures c.word-v.ensures)) in
    let e = no-record action_held (action_form a.f) a.script.now a.at refl k in
    record { value = e; says = action-tells _ e }
