-- The envelope's part from the place on, and its end.
use Prim.Native.Nat.{ℕ, ◌+◌, ◌≤◌}
use native.Mathlib.Omega.{arith}
use mathlib.Core.Path.{refl, sym, ap, subst, ◌∙◌}
use Rattle.std.specs.Prelude.{Option, Err, IfSome}
use Rattle.types.specs.declared.Envelope.{Envelope}
use Rattle.rules.specs.Script.{envelope_form}
use Rattle.script_places.specs.Views.{same}
use Rattle.script_places.proofs.Laws.{record_at, no-record, part-back}
use Rattle.script_places.proofs.Says.{tells, failed, refused}
use Rattle.script_records.proofs.Laws.{stand}
use Rattle.script_records.proofs.read_envelope.Goals as goal

pub end_in-requires : goal.end_in-requires
end_in-requires c =
    let a = c.args in
    let Short : Option (Envelope × ℕ) → Type 0 = λ x. IfSome x (λ y. y.1 ≤ 0 + 120) in
    let n = subst Short c.in_ok-e.ensures.ok_part c.envelope_part.ensures.short in
    (omega (arith, n), stand a.script.now a.at c.from-s.ensures c.word-w.ensures c.word-v.ensures)

pub returns-in_err-e : goal.returns-in_err-e
returns-in_err-e c =
    let a = c.args in
    let k = c.in_err-e.ensures in
    let g = stand a.script.now a.at c.from-s.ensures c.word-w.ensures c.word-v.ensures in
    let e = failed _ c.from_residual.ensures.1
    ∙ ap Err (refused k.value k.ok_part)
    ∙ no-record same (envelope_form a.f) a.script.now a.at refl (part-back (sym k.ok_part ∙ c.envelope_part.ensures.by_index _ g)) in
    record { value = e; says = tells same same (λ e. refl) _ e }

pub returns-in_err-next : goal.returns-in_err-next
returns-in_err-next c =
    let a = c.args in
    let k = c.in_err-next.ensures in
    let g = stand a.script.now a.at c.from-s.ensures c.word-w.ensures c.word-v.ensures in
    let e = failed _ c.from_residual-in_err-next.ensures.1
    ∙ ap Err (refused k.value k.ok_part)
    ∙ record_at same (envelope_form a.f) a.script.now a.at refl
    (part-back (sym c.in_ok-e.ensures.ok_part ∙ c.envelope_part.ensures.by_index _ g)) (sym k.ok_part ∙ c.end_in.ensures) in
    record { value = e; says = tells same same (λ e. refl) _ e }

pub returns : goal.returns
returns c =
    let a = c.args in
    let g = stand a.script.now a.at c.from-s.ensures c.word-w.ensures c.word-v.ensures in
    let e = record_at same (envelope_form a.f) a.script.now a.at refl
    (part-back (sym c.in_ok-e.ensures.ok_part ∙ c.envelope_part.ensures.by_index _ g)) (sym c.in_ok-next.ensures.ok_part ∙ c.end_in.ensures) in
    record { value = e; says = tells same same (λ e. refl) _ e }
