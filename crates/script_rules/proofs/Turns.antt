-- One turn of reading the commands: what holds after i turns still does after one more.
-- Assumes nothing.
use native.Mathlib.Omega.{arith}
use Prim.Native.Nat.{ℕ, suc, ◌+◌, ◌-◌, ◌*◌, ◌≤◌, ◌<◌}
use mathlib.Core.Path.{◌≡◌, sym, ap, ◌∙◌}
use mathlib.Core.List.{List, [], ◌∷◌, ◌++◌, map, map-append}
use lib.ListN.{take, set}
use native.Mathlib.Numerals.{add-one}
use Rattle.std.specs.Prelude.{Some, None}
use Rattle.lists.specs.Lists.{pad}
use Rattle.layout.specs.Form.{reached, stuck, follow, times}
use Rattle.layout.proofs.Laws.{follow-more}
use Rattle.types.specs.Capacities.{most_commands}
use Rattle.types.specs.declared.Format.{Format}
use Rattle.types.specs.declared.RuleCommand.{RuleCommand}
use Rattle.types.specs.declared.Slot.{Slot}
use Rattle.rules.specs.Inner.{zero_slot}
use Rattle.rules.specs.Script.{command_form}
use Rattle.script_places.proofs.Laws.{part-back}
use Rattle.script_rules.specs.Views.{command_part}
use Rattle.script_rules.proofs.Laws.{times-stuck, more-used, more-laid}

abbrev pub told1 : Slot → RuleCommand
told1 s = s.command

abbrev pub told : List Slot → List RuleCommand
told l = map told1 l

-- What holds after i turns.
pub record Turn (s : List ℕ) (at count : ℕ) (f : Format) (cs : List Slot) (end i : ℕ) : Type 0 where
  pub some : i ≤ count
  pub near : end ≤ at + 50 * i
  pub laid : cs ≡ pad most_commands zero_slot (take i cs)
  pub reads : follow s (times i (command_form f)) at ≡ reached (told (take i cs)) end

module _ {s : List ℕ} {at count : ℕ} {f : Format} {cs : List Slot} {end i : ℕ} (t : Turn s at count f cs end i) (less : i < count) where
  pub one_more : {x : RuleCommand} {n : ℕ} → count ≤ most_commands → Some (x, n) ≡ command_part (follow s (command_form f) end) → n ≤ end + 50
      → Turn s at count f (set cs i (record { command = x })) n (i + 1)
  one_more {x} {n} room k near =
      let w : cs ≡ pad most_commands zero_slot (take i cs) = t.laid in
      let y : Slot = record { command = x } in
      let e : take (i + 1) (set cs i y) ≡ take i cs ++ (y ∷ []) = more-used most_commands zero_slot cs i (omega arith) w y in
      record {
        some = omega arith;
        near = omega (arith, t.near);
        laid = more-laid most_commands zero_slot cs i (omega arith) w y;
        reads = ap (λ (j : ℕ). follow s (times j (command_form f)) at) (add-one i)
            ∙ follow-more s (command_form f) i at t.reads (part-back k)
            ∙ ap (λ (q : List RuleCommand). reached q n) (sym (ap told e ∙ map-append told1 (take i cs) (y ∷ [])));
      }

  pub all-stuck : None ≡ command_part (follow s (command_form f) end) → follow s (times count (command_form f)) at ≡ stuck
  all-stuck k =
      let e : i + suc (count - (i + 1)) ≡ count = omega arith in
      ap (λ (j : ℕ). follow s (times j (command_form f)) at) (sym e)
      ∙ times-stuck s (command_form f) i (count - (i + 1)) at t.reads (part-back k)
