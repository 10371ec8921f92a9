-- What the search leaves open of `note`.
use borrow.Author.Rules.{rules}
use native.Mathlib.Omega.{arith}
use Prim.Native.Nat.{◌+◌, ◌≤◌, ◌<◌}
use mathlib.Core.Path.{ap}
use lib.ListN.{get_or, drop}
use Rattle.link_direct.proofs.Laws.{sends-cons}
use Rattle.link_tables.specs.Rows.{orders}
use Rattle.link_tables.proofs.Told.{split_at, orders-end}
use Rattle.link_direct.specs.Direct.{sends}
use Rattle.link_notes.proofs.Laws.{along-step, along-end}
use Rattle.link_notes.proofs.note.Goals as goal

pub note_one-requires : goal.note_one-requires
note_one-requires c =
    let a = c.args in
    let os = orders a.row.now a.source a.value in
    let l = c.loop-i in
    let x = c.command_at-x in
    let h : l.i < get_or a.row.now 5 0 = omega arith in
    let q = split_at a.row.now a.source a.value c.requires.0 l.i h x.result x.ensures in
    let y = l.invariant.2.places in
    let z = l.invariant.2.numbers in
    let t = ap sends q in
    let v = sends-cons x.result (drop (l.i + 1) os) in
    let e1 = l.invariant.0 in
    let e2 = l.invariant.1 in
    let g = c.requires.2 in
    let k = c.requires.3 in
    (e1, omega arith, omega arith)

pub loop-i-preserved : goal.loop-i-preserved
loop-i-preserved c =
    let a = c.args in
    let os = orders a.row.now a.source a.value in
    let l = c.loop-i in
    let x = c.command_at-x in
    let h : l.i < get_or a.row.now 5 0 = omega arith in
    let q = split_at a.row.now a.source a.value c.requires.0 l.i h x.result x.ensures in
    let g : l.i + 1 ≤ get_or a.row.now 5 0 = omega arith in
    let e = c.note_one in (
      search rules,
      search rules,
      along-step os a.live.now a.pend.now l.live l.pend (drop l.i os) l.invariant.2
          x.result (drop (l.i + 1) os) q e.new.live e.new.pend e.ensures,
    )

pub returns : goal.returns
returns c =
    let a = c.args in
    let os = orders a.row.now a.source a.value in
    let l = c.loop-i in
    along-end os a.live.now a.pend.now l.live l.pend (drop l.i os) l.invariant.2
    (orders-end a.row.now a.source a.value c.requires.0 l.i (omega arith))
