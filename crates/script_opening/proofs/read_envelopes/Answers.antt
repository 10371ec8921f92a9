-- The count is read first, and is at most what the format allows; so many envelopes follow it.
use native.Mathlib.Omega.{arith}
use Prim.Native.Nat.{◌≤◌}
use mathlib.Core.Path.{sym, ap, ◌∙◌}
use borrow.Author.Rules.{rules, lives}
use lib.ListN.{drop}
use Rattle.std.specs.Prelude.{Ok}
use Rattle.lists.specs.Lists.{pad}
use Rattle.layout.specs.Read.{one, repeat}
use Rattle.types.specs.Capacities.{most_entries}
use Rattle.types.specs.declared.Envelope.{Envelope}
use Rattle.rules.specs.Script.{envelope_count_form, envelope_form, envelopes_from}
use Rattle.script_places.specs.Views.{same}
use Rattle.script_places.proofs.Says.{tells, failed}
use Rattle.script_opening.specs.Views.{Kept, envelopes_held, envelopes_read}
use Rattle.script_opening.specs.Says.{envelopes_in}
use Rattle.script_opening.proofs.Readings.{found_is, found_same, missed, then_read, then_bad, few-envelopes}
use Rattle.script_opening.proofs.Kept.{kept-one, kept-repeat, repeat-length}
use Rattle.script_opening.proofs.Says.{envelopes-back}
use Rattle.script_opening.proofs.read_envelopes.Goals as goal

pub returns-in_err-used : goal.returns-in_err-used
unfolding envelopes_from
returns-in_err-used c =
    let a = c.args in
    let e = failed _ c.from_residual.ensures.1
    ∙ sym (ap envelopes_read (then_bad _ (missed same (one (envelope_count_form a.f)) a.script.now a.at c.in_err-used.ensures.value))) in
    record { value = e; says = tells envelopes_held envelopes_in envelopes-back _ e }

pub read_many-requires : goal.read_many-requires
read_many-requires c = λ k h.
    let a = c.args in
    let n = found_same (one (envelope_count_form a.f)) a.script.now a.at (kept-one (envelope_count_form a.f)) c.in_ok-used.ensures.value in
    let few = few-envelopes a.f (drop a.at a.script.now) a.at n in
    let room : c.in_ok-used.used ≤ most_entries = omega (arith, few, c.requires.most) in
    let kept : Kept (one (envelope_form a.f)) = kept-one (envelope_form a.f) in
    (search lives, (search lives, (search lives depth 12, search (rules, room, kept) parts 12)))

pub returns-in_err-list : goal.returns-in_err-list
unfolding envelopes_from
returns-in_err-list c =
    let a = c.args in
    let n = found_same (one (envelope_count_form a.f)) a.script.now a.at (kept-one (envelope_count_form a.f)) c.in_ok-used.ensures.value in
    let r = c.in_ok-used in
    let e = failed _ c.from_residual-in_err-list.ensures.1
    ∙ sym (ap envelopes_read (then_read _ n
    ∙ missed (pad most_entries c.zero_envelope.result) (repeat r.used (one (envelope_form a.f))) a.script.now r.first c.in_err-list.ensures)) in
    record { value = e; says = tells envelopes_held envelopes_in envelopes-back _ e }

pub returns : goal.returns
unfolding envelopes_from
returns c =
    let a = c.args in
    let n = found_same (one (envelope_count_form a.f)) a.script.now a.at (kept-one (envelope_count_form a.f)) c.in_ok-used.ensures.value in
    let r = c.in_ok-used in
    let w = found_is (pad most_entries c.zero_envelope.result) (repeat r.used (one (envelope_form a.f))) a.script.now r.first
    (kept-repeat r.used (one (envelope_form a.f)) (kept-one (envelope_form a.f))) c.in_ok-list.ensures in
    let l = w.told ∙ ap (λ (z : Envelope). pad most_entries z w.value) c.zero_envelope.ensures in
    let u = sym (repeat-length (one (envelope_form a.f)) r.used (drop r.first a.script.now) r.first w.reads) in
    let e = (λ i. Ok (record { list = l i; used = u i }, c.in_ok-list.next)) ∙ sym (ap envelopes_read (then_read _ n ∙ w.reads)) in
    record { value = e; says = tells envelopes_held envelopes_in envelopes-back _ e }
