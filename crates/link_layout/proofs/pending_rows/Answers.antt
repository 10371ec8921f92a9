-- What the search leaves open of `pending_rows`.
-- Assumes nothing.
use Rattle.std.proofs.Common.{rules, ◌≡◌, arith, refl, ap, ◌∙◌, length, take, length-take-le}
use Rattle.lists.specs.Lists.{pad}
use Rattle.lists.proofs.Places.{fill_more, length-mapped}
use Rattle.types.specs.Capacities.{most_pending}
use Rattle.link_durable.specs.Views.{zero_pending}
use Rattle.link_durable.proofs.Containers.{counts}
use Rattle.link_rows.proofs.Heads.{sendable-more}
use Rattle.link_layout.specs.Rows.{record_of, no_record}
use Rattle.link_layout.proofs.Laws.{filled}
use Rattle.link_layout.proofs.pending_rows.Goals as goal

pub shared_ref_as_front-q-items : goal.shared_ref_as_front-q-items
shared_ref_as_front-q-items c = (counts c.args.d c.requires).0

pub loop-i-init : goal.loop-i-init
unfolding pad
loop-i-init c = (refl, record { dst = λ i h. absurd (omega arith); payload = λ i h. absurd (omega arith) })

pub loop-i-preserved : goal.loop-i-preserved
loop-i-preserved c =
    let l = c.loop-i in
    let p = c.args.d.pending in
    let n : length p.places ≡ most_pending = search (rules, length-mapped) in
    let u = (counts c.args.d c.requires).0 in
    let es = take p.used p.places in
    let few : length es ≡ p.used = length-take-le p.used p.places (omega arith) in
    let m = ap length l.invariant.0 ∙ filled record_of most_pending no_record es l.i (omega arith) in
    let r = c.record_of.ensures in (
      fill_more record_of zero_pending es l.i (omega arith) most_pending no_record l.rows _ (omega arith) l.invariant.0 r.0,
      rw r.0 (sendable-more l.rows l.i _ (omega arith) l.invariant.1 r.1 r.2),
    )
