-- What the search leaves open of `resend`.
use native.Mathlib.Omega.{arith}
use Prim.Native.Nat.{◌+◌, ◌≤◌, ◌<◌}
use mathlib.Core.Path.{refl, sym, ◌∙◌}
use mathlib.Core.List.{[], map}
use lib.ListN.{get_or, take, drop}
use Rattle.rules.specs.Link.{resent}
use Rattle.link_rows.specs.Rows.{pending_in}
use Rattle.sys_resends.proofs.Laws.{along-end, along-stop, along-step, next_one, no_more, nothing-more, none_left}
use Rattle.sys_resends.proofs.resend.Goals as goal

pub loop-i-init : goal.loop-i-init
loop-i-init c = (omega arith, record { room = refl; ready = c.requires.0; goal = λ hall last a. refl })

pub returns-then-k-eq0 : goal.returns-then-k-eq0
returns-then-k-eq0 c =
    let a = c.args in
    let ps = map pending_in (take a.n a.pend.now) in
    let l = c.loop-i in
    along-end a.kind a.me (take a.limit (resent ps)) a.c.now a.used a.timers l.c l.u l.l l.k (drop l.i ps) l.invariant.1
    (none_left l.k _ c.if-k-eq0.true)

pub resend_one-s-requires : goal.resend_one-s-requires
resend_one-s-requires c =
    let a = c.args in
    let l = c.loop-i in
    let h : l.i < a.n = c.loop-i-test.true in
    (l.invariant.1.ready, c.requires.2.dst l.i h, c.requires.2.payload l.i h)

pub returns-then-not-is_done : goal.returns-then-not-is_done
unfolding pending_in
returns-then-not-is_done c =
    let a = c.args in
    let ps = map pending_in (take a.n a.pend.now) in
    let l = c.loop-i in
    let h : l.i < a.n = c.loop-i-test.true in
    let g : 0 < l.k = omega arith in
    let q = next_one a.pend.now a.n c.requires.1 l.i h in
    let x = c.resend_one-s in
    along-stop a.kind a.me (take a.limit (resent ps)) a.c.now a.used a.timers l.c l.u l.l l.k (drop l.i ps) l.invariant.1 g
    (pending_in (get_or a.pend.now l.i [])) (drop (l.i + 1) ps) q x.result x.new.c x.ensures
    (sym c.is_done.ensures ∙ c.if-not-is_done.true)

pub loop-i-preserved : goal.loop-i-preserved
unfolding pending_in
loop-i-preserved c =
    let a = c.args in
    let ps = map pending_in (take a.n a.pend.now) in
    let l = c.loop-i in
    let h : l.i < a.n = c.loop-i-test.true in
    let g : 0 < l.k = omega arith in
    let q = next_one a.pend.now a.n c.requires.1 l.i h in
    let x = c.resend_one-s in
    let b : l.i + 1 ≤ a.n = omega arith in (
      b,
      along-step a.kind a.me (take a.limit (resent ps)) a.c.now a.used a.timers l.c l.u l.l l.k (drop l.i ps) l.invariant.1 g
          (pending_in (get_or a.pend.now l.i [])) (drop (l.i + 1) ps) q x.result x.new.c x.ensures
          (sym c.is_done.ensures ∙ c.if-not-is_done.false),
    )

pub returns : goal.returns
returns c =
    let a = c.args in
    let ps = map pending_in (take a.n a.pend.now) in
    let l = c.loop-i in
    along-end a.kind a.me (take a.limit (resent ps)) a.c.now a.used a.timers l.c l.u l.l l.k (drop l.i ps) l.invariant.1
    (nothing-more l.k _ (no_more a.pend.now a.n c.requires.1 l.i (omega arith)))
