-- What the search leaves open of `read_in`.
use Rattle.std.proofs.Common.{refl, ◌∙◌, arith, ap, replicate, ℕ}
use Rattle.lists.specs.Lists.{pad}
use Rattle.lists.proofs.Places.{fill_more}
use Rattle.link_layout.proofs.Laws.{read-whole}
use Rattle.link_layout.proofs.read_in.Goals as goal

pub loop-i-init : goal.loop-i-init
unfolding pad
loop-i-init g c = λ r h. (refl, ap (λ (n : ℕ). replicate n c.args.zero) (omega arith))

pub loop-i-preserved : goal.loop-i-preserved
loop-i-preserved g c = λ r h.
    let l = c.loop-i in
    let i = l.invariant r h in
    let e = h l.read c.read.new.self _ c.read.result c.read.ensures in
    let x = c.index-items-i in (
      e.0 ∙ i.0,
      fill_more r x.result c.args.items.now l.i c.loop-i-test.true g.row.N c.args.zero l.places c.read.result
          (omega (arith, c.requires.room)) i.1 (e.1 ∙ ap r x.is),
    )

pub returns : goal.returns
returns g c = λ r h.
    let l = c.loop-i in
    let i = l.invariant r h in
    read-whole g.row.N c.args.zero r c.args.items.now l.places l.i c.loop-i-test.false i.1
