-- The start's line is written first. A start that is refused ends there; else the run goes on from the place where the opening ends.
use native.Mathlib.Omega.{arith}
use Prim.Native.Nat.{ℕ}
use mathlib.Core.Path.{◌≡◌, sym, ap, ◌∙◌}
use mathlib.Core.List.{List}
use lib.ListN.{drop}
use lib.Dec.{lit≤}
use Rattle.rules.specs.System.{systems}
use Rattle.rules.specs.Start.{blank}
use Rattle.rules.specs.Script.{versions, format_of, opening_from, actions_from}
use Rattle.script_check.proofs.Whole.{Parts, parts-of}
use Rattle.sys_system.specs.Views.{system_of}
use Rattle.sys_answered.specs.Views.{answered_of}
use Rattle.replay_start.specs.declared.Opened.{Opened}
use Rattle.replay_start.specs.Views.{opened_of}
use Rattle.replay_script.proofs.Laws.{Begun, m, begun, used-fits, first_fits, ends-fit, ends-all, runs_so, runs-all}
use Rattle.replay_script.proofs.tell_run.Goals as goal

-- ---- a script whose layout is good, and what its opening was started to
module _ (s : List ℕ) (p : Parts versions s) (o : Opened) (e : o ≡ opened_of (opening_from versions s 0)) where
  opened : o ≡ record { answered = answered_of (system_of blank) (systems (m s p)); version = p.opening.version; next = p.next }
  opened = e ∙ ap opened_of p.reads_opening

  here : Begun (m s p) o.answered
  here = begun s p o.answered (ap (λ (x : Opened). x.answered) opened)

pub len-len-requires : goal.len-len-requires
len-len-requires c =
    let p : Parts versions c.args.script.now = parts-of versions c.args.script.now c.requires.0 in
    let o = c.open-o in
    used-fits (here c.args.script.now p o.result o.ensures)

pub start_line-at-requires : goal.start_line-at-requires
start_line-at-requires c =
    let p : Parts versions c.args.script.now = parts-of versions c.args.script.now c.requires.0 in
    let o = c.open-o in
    let n = c.number_of-number in
    let k = c.len-len in (
      first_fits c.args.script.now p o.result.answered (here c.args.script.now p o.result o.ensures) c.args.write c.args.out.now c.requires.1 n.result
          k.result n.ensures k.ensures,
      lit≤ tt,
    )

pub done_line-requires : goal.done_line-requires
done_line-requires c =
    let p : Parts versions c.args.script.now = parts-of versions c.args.script.now c.requires.0 in
    let o = c.open-o in
    let n = c.number_of-number in
    let k = c.len-len in
    let e = c.start_line-at.ensures in
    let h = sym c.is_done.ensures ∙ c.if-not-is_done.true in (
      ends-fit c.args.script.now p o.result.answered (here c.args.script.now p o.result o.ensures) c.args.write c.args.out.now c.requires.1 n.result
          k.result n.ensures k.ensures (record { next = e.next; bytes = e.bytes }) h,
      omega (arith, e.short),
    )

pub returns-then-not-is_done : goal.returns-then-not-is_done
returns-then-not-is_done c =
    let p : Parts versions c.args.script.now = parts-of versions c.args.script.now c.requires.0 in
    let o = c.open-o in
    let n = c.number_of-number in
    let k = c.len-len in
    let e = c.start_line-at.ensures in
    let h = sym c.is_done.ensures ∙ c.if-not-is_done.true in
    let d = c.done_line.ensures in
    ends-all c.args.script.now p o.result.answered (here c.args.script.now p o.result o.ensures) c.args.write c.args.out.now c.requires.1 n.result k.result
    n.ensures k.ensures (record { next = e.next; bytes = e.bytes }) h (record { next = d.next; bytes = d.bytes })

pub run-requires : goal.run-requires
run-requires c =
    let p : Parts versions c.args.script.now = parts-of versions c.args.script.now c.requires.0 in
    let o = c.open-o in
    let n = c.number_of-number in
    let k = c.len-len in
    let e = c.start_line-at.ensures in
    let h = sym c.is_done.ensures ∙ c.if-not-is_done.false in
    let v = c.format_of-f.ensures ∙ ap (λ (x : Opened). format_of versions x.version) (opened c.args.script.now p o.result o.ensures) in
    runs_so c.args.script.now p o.result.answered (here c.args.script.now p o.result o.ensures) c.args.write c.args.out.now c.requires.1 n.result k.result
    n.ensures k.ensures (record { next = e.next; bytes = e.bytes }) h o.result.next c.format_of-f.result
    (ap (λ (x : Opened). x.next) (opened c.args.script.now p o.result o.ensures)) v (omega (arith, e.short))

pub returns : goal.returns
returns c =
    let p : Parts versions c.args.script.now = parts-of versions c.args.script.now c.requires.0 in
    let o = c.open-o in
    let n = c.number_of-number in
    let k = c.len-len in
    let e = c.start_line-at.ensures in
    let h = sym c.is_done.ensures ∙ c.if-not-is_done.false in
    let f = ap (λ (x : Opened). x.next) (opened c.args.script.now p o.result o.ensures) in
    let v = c.format_of-f.ensures ∙ ap (λ (x : Opened). format_of versions x.version) (opened c.args.script.now p o.result o.ensures) in
    runs-all c.args.script.now p o.result.answered (here c.args.script.now p o.result o.ensures) c.args.write c.args.out.now c.requires.1 n.result k.result
    n.ensures k.ensures (record { next = e.next; bytes = e.bytes }) h
    (c.run.ensures p.actions p.left p.place
    ((λ i. actions_from (v i) (drop (f i) c.args.script.now) (f i)) ∙ p.reads_actions))
