-- What the search leaves open of `fill`.
use borrow.Author.Rules.{rules}
use native.Mathlib.Omega.{arith}
use native.Mathlib.Numerals.{add-one}
use mathlib.Core.Path.{◌≡◌, refl, sym, subst, ◌∙◌}
use Rattle.lists.proofs.Places.{length-mapped}
use Rattle.net_cells.specs.Cells.{zero_entry}
use lib.ListN.{length}
use Rattle.types.specs.Capacities.{most_entries}
use Rattle.sys_start.proofs.Fills.{Filling, fill_begins, fill_stops, fill-goes, fill-ends}
use Rattle.sys_start.proofs.fill.Goals as goal

pub loop-i-init : goal.loop-i-init
loop-i-init c = (refl, rw (c.requires.1, c.requires.2) (fill_begins _ _ _ _ c.requires.0))

pub send-s-requires : goal.send-s-requires
send-s-requires c = let v = c.loop-i.invariant in rw v.0 v.1.net

pub returns-then-not-is_done : goal.returns-then-not-is_done
returns-then-not-is_done c =
    let l = c.loop-i in
    let v = l.invariant in
    let n : length c.args.list ≡ most_entries = search (rules, length-mapped) in
    let u = c.requires.3 in
    let g = c.send-s in (
      fill_stops c.args.net.now.kind c.args.list c.args.count l.net.cells l.net.used l.net.len l.i v.1 (omega arith)
          (omega arith) zero_entry.envelope g.result g.new.c (rw v.0 at g.ensures) (sym c.is_done.ensures ∙ c.if-not-is_done.true),
      v.0,
    )

pub loop-i-preserved : goal.loop-i-preserved
loop-i-preserved c =
    let l = c.loop-i in
    let v = l.invariant in
    let n : length c.args.list ≡ most_entries = search (rules, length-mapped) in
    let u = c.requires.3 in
    let g = c.send-s in (
      v.0,
      rw add-one (fill-goes c.args.net.now.kind c.args.list c.args.count l.net.cells l.net.used l.net.len l.i v.1
          (omega arith) (omega arith) zero_entry.envelope g.result g.new.c (rw v.0 at g.ensures)
          (sym c.is_done.ensures ∙ c.if-not-is_done.false)),
    )

pub returns : goal.returns
returns c =
    let l = c.loop-i in
    let n = l.net in
    let e : l.i ≡ c.args.count = omega arith in (
      fill-ends c.args.net.now.kind c.args.list c.args.count n.cells n.used n.len
          (subst (λ j. Filling c.args.net.now.kind c.args.list c.args.count n.cells n.used n.len j) e l.invariant.1),
      l.invariant.0,
    )
