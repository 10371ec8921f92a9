-- What the search leaves open of `emit`.
use Prim.Native.Nat.{◌+◌, ◌≤◌, ◌<◌}
use borrow.Author.Rules.{rules}
use native.Mathlib.Omega.{arith}
use mathlib.Core.Path.{refl, sym, ◌∙◌}
use lib.ListN.{get_or, take, drop}
use Rattle.link_tables.specs.Rows.{orders}
use Rattle.link_tables.proofs.Told.{split_at, orders-end}
use Rattle.link_direct.specs.Direct.{asked}
use Rattle.sys_emits.proofs.Along.{along-end, along-stop, along-step, along-room, nothing-more, none_left}
use Rattle.sys_emits.proofs.emit.Goals as goal

pub bounds-row-5 : goal.bounds-row-5
bounds-row-5 c = let z = c.requires.1.room in search rules

pub loop-i-init : goal.loop-i-init
loop-i-init c = (omega arith, record { room = refl; ready = c.requires.0; number = c.requires.2; goal = λ hall last a. refl })

pub returns-then-k-eq0 : goal.returns-then-k-eq0
returns-then-k-eq0 c =
    let a = c.args in
    let os = orders a.row.now a.source a.value in
    let l = c.loop-i in
    along-end a.kind a.me (take a.limit (asked a.next os)) a.c.now a.used a.timers l.c l.u l.l l.w l.m l.k
    (drop l.i os) l.invariant.1 (none_left _ _ _ c.if-k-eq0.true)

pub command_at-x-requires : goal.command_at-x-requires
command_at-x-requires c = let z = c.requires.1.used in (c.requires.1, omega arith)

pub emit_one-s-requires : goal.emit_one-s-requires
emit_one-s-requires c =
    let a = c.args in
    let os = orders a.row.now a.source a.value in
    let l = c.loop-i in
    let x = c.command_at-x in
    let h : l.i < get_or a.row.now 5 0 = omega arith in
    let q = split_at a.row.now a.source a.value c.requires.1 l.i h x.result x.ensures in (
      l.invariant.1.ready,
      omega arith,
      along-room a.kind a.me (take a.limit (asked a.next os)) a.c.now a.used a.timers l.c l.u l.l
          l.w l.m l.k (drop l.i os) l.invariant.1 x.result _ q,
    )

pub returns-then-not-is_done : goal.returns-then-not-is_done
returns-then-not-is_done c =
    let a = c.args in
    let os = orders a.row.now a.source a.value in
    let l = c.loop-i in
    let x = c.command_at-x in
    let h : l.i < get_or a.row.now 5 0 = omega arith in
    let q = split_at a.row.now a.source a.value c.requires.1 l.i h x.result x.ensures in
    let e = c.emit_one-s in
    along-stop a.kind a.me (take a.limit (asked a.next os)) a.c.now a.used a.timers l.c l.u l.l l.w l.m l.k
    (drop l.i os) l.invariant.1 x.result _ q e.result e.new.c e.ensures (sym c.is_done.ensures ∙ c.if-not-is_done.true)

pub loop-i-preserved : goal.loop-i-preserved
loop-i-preserved c =
    let a = c.args in
    let os = orders a.row.now a.source a.value in
    let l = c.loop-i in
    let x = c.command_at-x in
    let h : l.i < get_or a.row.now 5 0 = omega arith in
    let q = split_at a.row.now a.source a.value c.requires.1 l.i h x.result x.ensures in
    let e = c.emit_one-s in
    let g : l.i + 1 ≤ get_or a.row.now 5 0 = omega arith in (
      g,
      along-step a.kind a.me (take a.limit (asked a.next os)) a.c.now a.used a.timers l.c l.u l.l l.w l.m l.k
          (drop l.i os) l.invariant.1 x.result _ q e.result e.new.c e.ensures (sym c.is_done.ensures ∙ c.if-not-is_done.false),
    )

pub returns : goal.returns
returns c =
    let a = c.args in
    let os = orders a.row.now a.source a.value in
    let l = c.loop-i in
    along-end a.kind a.me (take a.limit (asked a.next os)) a.c.now a.used a.timers l.c l.u l.l l.w l.m l.k
    (drop l.i os) l.invariant.1 (nothing-more l.k l.m _ (orders-end a.row.now a.source a.value c.requires.1 l.i (omega arith)))
