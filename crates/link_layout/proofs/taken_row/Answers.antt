-- What the search leaves open of `taken_row`.
-- Assumes nothing.
use Rattle.std.proofs.Common.{rules, ◌≡◌, arith, refl, length, take, length-take-le}
use Rattle.lists.specs.Lists.{pad}
use Rattle.lists.proofs.Places.{length-mapped}
use Rattle.types.specs.Capacities.{most_actors}
use Rattle.rules.specs.Link.{untaken}
use Rattle.link_durable.proofs.Containers.{taken-are}
use Rattle.link_layout.proofs.Laws.{fill-after}
use Rattle.link_layout.proofs.taken_row.Goals as goal

pub shared_ref_as_front-n-items : goal.shared_ref_as_front-n-items
shared_ref_as_front-n-items c =
    let n : length c.args.t.places ≡ most_actors = search (rules, length-mapped) in
    (taken-are c.args.t n c.requires).fit

pub loop-i-init : goal.loop-i-init
unfolding pad
loop-i-init c = refl

pub loop-i-preserved : goal.loop-i-preserved
loop-i-preserved c =
    let l = c.loop-i in
    let t = c.args.t in
    let n : length t.places ≡ most_actors = search (rules, length-mapped) in
    let u = (taken-are t n c.requires).fit in
    let es = take t.used t.places in
    let few : length es ≡ t.used = length-take-le t.used t.places (omega arith) in
    fill-after es untaken l.i l.row (omega arith) (omega arith) l.invariant
