-- What the search leaves open of `commands_part`.
use native.Mathlib.Omega.{arith}
use Prim.Native.Nat.{ℕ}
use mathlib.Core.Path.{◌≡◌, refl, sym, ap, ◌∙◌}
use mathlib.Core.List.{List}
use borrow.Author.Rules.{rules}
use lib.ListN.{take}
use Rattle.lists.specs.Lists.{pad}
use Rattle.layout.specs.Form.{reached, follow, times}
use Rattle.types.specs.Capacities.{most_commands}
use Rattle.types.specs.declared.Slot.{Slot}
use Rattle.rules.specs.Inner.{zero_slot, slots_of}
use Rattle.rules.specs.Script.{command_form}
use Rattle.script_rules.specs.Views.{commands_part}
use Rattle.script_places.proofs.Laws.{then_at, then-stuck}
use Rattle.script_rules.proofs.Laws.{slots-are}
use Rattle.script_rules.proofs.Turns.{told, one_more, all-stuck}
use Rattle.script_rules.proofs.commands_part.Goals as goal

pub loop-i-init : goal.loop-i-init
unfolding pad
loop-i-init c = record { some = search rules; near = search rules; laid = rw c.zero_slot-commands.ensures; reads = refl }

pub loop-i-preserved : goal.loop-i-preserved
loop-i-preserved c =
    let k = c.in_ok-command.ensures in
    one_more c.loop-i.invariant (omega arith) (omega arith) k.value k.short

pub returns-in_err-command-clause-value : goal.returns-in_err-command-clause-value
returns-in_err-command-clause-value c =
    let a = c.args in
    c.from_residual.ensures
    ∙ sym (ap commands_part (then-stuck a.s.now a.at (times a.count (command_form a.f)) slots_of
    (all-stuck c.loop-i.invariant (omega arith) c.in_err-command.ensures.value)))

pub returns-clause-value : goal.returns-clause-value
returns-clause-value c =
    let l = c.loop-i in
    let a = c.args in
    let e : l.i ≡ a.count = omega arith in
    let h : follow a.s.now (times a.count (command_form a.f)) a.at ≡ reached (told (take a.count l.commands)) l.end =
    ap (λ (k : ℕ). follow a.s.now (times k (command_form a.f)) a.at) (sym e)
    ∙ l.invariant.reads
    ∙ ap (λ (k : ℕ). reached (told (take k l.commands)) l.end) e in
    let r : l.commands ≡ pad most_commands zero_slot (take a.count l.commands) =
    l.invariant.laid ∙ ap (λ (k : ℕ). pad most_commands zero_slot (take k l.commands)) e in
    sym (ap commands_part (then_at a.s.now a.at (times a.count (command_form a.f)) slots_of h
    ∙ ap (λ (q : List Slot). reached q l.end) (slots-are a.count l.commands r)))
