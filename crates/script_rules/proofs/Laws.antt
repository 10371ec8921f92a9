-- Why a rule is read right: its fields lead the form to its commands, and they to the rule.
-- Assumes nothing.
use Prim.Native.Nat.{ℕ, zero, suc, ◌+◌, ◌≤◌, ◌<◌}
use native.Mathlib.Omega.{arith}
use native.Mathlib.Numerals.{add-one}
use mathlib.Core.Path.{◌≡◌, refl, sym, ap, ◌∙◌}
use mathlib.Core.List.{List, [], ◌∷◌, ◌++◌, map}
use borrow.Author.Tests.{le-leb, lt-leb}
use lib.ListN.{take, set, get_or-eq_default}
use lib.Seq.{take-suc-set}
use lib.Dec.{leb}
use Rattle.lists.specs.Lists.{pad}
use Rattle.lists.proofs.Places.{laid-room, laid-append}
use Rattle.layout.specs.Bits.{field_at}
use Rattle.layout.specs.Form.{Form, filled, refuse, Reached, reached, stuck, follow, then, times, only}
use Rattle.layout.proofs.Laws.{on_reached, follow-then, fed, follow-only, follow-not, then-reached, stuck-first, then_Found}
use Rattle.types.specs.Capacities.{most_commands}
use Rattle.types.specs.declared.Format.{Format}
use Rattle.types.specs.declared.RuleCommand.{RuleCommand}
use Rattle.types.specs.declared.RuleCommand.TheVariants as rule
use Rattle.types.specs.declared.Slot.{Slot}
use Rattle.rules.specs.Inner.{zero_slot, slots_of}
use Rattle.rules.specs.Script.{flag, command_kinds, command_form, rule_form}
use Rattle.script_places.proofs.Laws.{then-stuck, moved, fed-on}
use Rattle.script_rules.specs.Views.{rule_with}

-- One of so many is stuck: all of them are.
pub times-stuck
    : {A : Type 0} (xs : List ℕ) (f : Form A) (i k at : ℕ) {l : List A} {m : ℕ} → follow xs (times i f) at ≡ reached l m → follow xs f m ≡ stuck
    → follow xs (times (i + suc k) f) at ≡ stuck
times-stuck xs f zero k at {l} {m} h e =
    let q : at ≡ m = cc in
    let z : 0 + suc k ≡ suc k = omega arith in
    rw z (stuck-first xs f (λ b. then (times k f) (λ rest. filled (b ∷ rest))) at (ap (follow xs f) q ∙ e))
times-stuck {A = A} xs f (suc i) k at {l} {m} h e =
    let r = then_Found xs f (λ b. then (times i f) (λ rest. filled (b ∷ rest))) at h in
    let b : A = r.value in
    let s = then_Found xs (times i f) (λ rest. filled (b ∷ rest)) r.middle r.second in
    let t : follow xs (filled (b ∷ s.value)) s.middle ≡ reached l m = s.second in
    let q : s.middle ≡ m = cc in
    let z : suc i + suc k ≡ suc (i + suc k) = omega arith in
    rw z (then-reached xs f (λ c. then (times (i + suc k) f) (λ rest. filled (c ∷ rest))) at r.first
    (stuck-first xs (times (i + suc k) f) (λ rest. filled (b ∷ rest)) r.middle
    (times-stuck xs f i k r.middle (s.first ∙ ap (reached s.value) q) e)))

module _ (xs : List ℕ) where
  module _ (f : Format) (at : ℕ) where
    -- ---- a command, whose fields begin at b
    module _ {b : ℕ} (z : b ≡ at + f.command) where
      pub set_at : {t e : ℕ} → 0 ≡ field_at xs at f.command → t ≡ field_at xs b 5 → e ≡ b + 5 → follow xs (command_form f) at
          ≡ reached (rule.SetTimer t) e
      unfolding command_form command_kinds
      set_at {t} p q r = rw (r, z) (fed xs (command_form f) at (0 ∷ t ∷ []) (p, (moved xs 5 q z, tt)))

      pub cancel-at : {t e : ℕ} → 1 ≡ field_at xs at f.command → t ≡ field_at xs b 5 → e ≡ b + 5
          → follow xs (command_form f) at ≡ reached (rule.CancelTimer t) e
      unfolding command_form command_kinds
      cancel-at {t} p q r = rw (r, z) (fed xs (command_form f) at (1 ∷ t ∷ []) (p, (moved xs 5 q z, tt)))

      pub IsSend-at
          : {s d o p e : ℕ} → 2 ≡ field_at xs at f.command → s ≡ field_at xs b 1 → d ≡ field_at xs (b + 1) 8 → o ≡ field_at xs (b + 9) 1
          → p ≡ field_at xs (b + 10) 32 → e ≡ b + 42
          → follow xs (command_form f) at ≡ reached (rule.Send (flag s) (record { 0 = d }) (flag o) (record { 0 = p })) e
      unfolding command_form command_kinds
      IsSend-at {s} {d} {o} {p} {e} hk hs hd ho hp he =
          let g : b + 1 ≡ at + f.command + 1 = omega (arith, z) in
          let h : b + 9 ≡ at + f.command + 1 + 8 = omega (arith, z) in
          let j : b + 10 ≡ at + f.command + 1 + 8 + 1 = omega (arith, z) in
          let k : at + f.command + 1 + 8 + 1 + 32 ≡ e = omega (arith, z, he) in
          fed xs (command_form f) at (2 ∷ s ∷ d ∷ o ∷ p ∷ []) (hk, (moved xs 1 hs z, (moved xs 8 hd g, (moved xs 1 ho h, (moved xs 32 hp j, tt)))))
          ∙ ap (reached (rule.Send (flag s) (record { 0 = d }) (flag o) (record { 0 = p }))) k

      pub save-at
          : {o v e : ℕ} → 3 ≡ field_at xs at f.command → o ≡ field_at xs b 1 → v ≡ field_at xs (b + 1) 32 → e ≡ b + 33
          → follow xs (command_form f) at ≡ reached (rule.Save (flag o) v) e
      unfolding command_form command_kinds
      save-at {o} {v} {e} hk ho hv he =
          let g : b + 1 ≡ at + f.command + 1 = omega (arith, z) in
          let k : at + f.command + 1 + 32 ≡ e = omega (arith, z, he) in
          fed xs (command_form f) at (3 ∷ o ∷ v ∷ []) (hk, (moved xs 1 ho z, (moved xs 32 hv g, tt))) ∙ ap (reached (rule.Save (flag o) v)) k

    pub no-command : 4 ≤ field_at xs at f.command → follow xs (command_form f) at ≡ stuck
    unfolding command_form command_kinds
    no-command h = ap (λ (g : Form RuleCommand). follow xs g (at + f.command)) (get_or-eq_default command_kinds refuse h)

  -- ---- a rule
  module _ (f : Format) where
    abbrev pub commands_form : ℕ → Form (List Slot)
    commands_form c = then (times c (command_form f)) (λ cs. filled (slots_of cs))

    module _ {c : ℕ} (p : c ≡ field_at xs (f.event + 73) 3) {b : ℕ} (z : b ≡ f.event + 76) where
      rule-rest : follow xs (rule_form f) 0
          ≡ follow xs (only (leb c most_commands) (then (times c (command_form f)) (λ cs. filled (rule_with xs f.event (slots_of cs) c)))) b
      unfolding rule_form
      rule-rest =
          let w = f.event in
          let e1 : w ≡ 0 + w = omega arith in
          let e2 : w + 4 ≡ 0 + w + 4 = omega arith in
          let e3 : w + 36 ≡ 0 + w + 4 + 32 = omega arith in
          let e4 : w + 68 ≡ 0 + w + 4 + 32 + 32 = omega arith in
          let e5 : w + 69 ≡ 0 + w + 4 + 32 + 32 + 1 = omega arith in
          let e6 : w + 73 ≡ 0 + w + 4 + 32 + 32 + 1 + 4 = omega arith in
          let e7 : 0 + w + 4 + 32 + 32 + 1 + 4 + 3 ≡ b = omega (arith, z) in
          fed-on xs (rule_form f) 0
          (field_at xs 0 w ∷ field_at xs w 4 ∷ field_at xs (w + 4) 32 ∷ field_at xs (w + 36) 32 ∷ field_at xs (w + 68) 1 ∷ field_at xs (w + 69) 4 ∷ c
          ∷ [])
          (refl, (moved xs 4 refl e1, (moved xs 32 refl e2, (moved xs 32 refl e3, (moved xs 1 refl e4, (moved xs 4 refl e5, (moved xs 3 p e6, tt)))))))
          ∙ ap
          (follow xs (only (leb c most_commands) (then (times c (command_form f)) (λ cs. filled (rule_with xs w (slots_of cs) c)))))
          e7

      module _ (fit : c ≤ most_commands) where
        rule-commands : follow xs (rule_form f) 0 ≡ follow xs (then (times c (command_form f)) (λ cs. filled (rule_with xs f.event (slots_of cs) c))) b
        rule-commands = rule-rest ∙ follow-only xs (then (times c (command_form f)) (λ cs. filled (rule_with xs f.event (slots_of cs) c))) b (le-leb _ _ fit)

        pub rule-at : {l : List Slot} {e : ℕ} → follow xs (commands_form c) b ≡ reached l e → follow xs (rule_form f) 0
            ≡ reached (rule_with xs f.event l c) e
        rule-at {l} {e} h =
            let r = then_Found xs (times c (command_form f)) (λ cs. filled (slots_of cs)) b h in
            let s : reached (slots_of r.value) r.middle ≡ reached l e = r.second in
            let t : slots_of r.value ≡ l = cc in
            let u : r.middle ≡ e = cc in
            rule-commands
            ∙ then-reached xs (times c (command_form f)) (λ cs. filled (rule_with xs f.event (slots_of cs) c)) b r.first (rw (t, u))

        pub rule-stuck : follow xs (commands_form c) b ≡ stuck → follow xs (rule_form f) 0 ≡ stuck
        rule-stuck h =
            rule-commands
            ∙ then-stuck xs b (times c (command_form f)) (λ cs. rule_with xs f.event (slots_of cs) c)
            (go (follow xs (times c (command_form f)) b) refl (sym (follow-then xs (times c (command_form f)) (λ cs. filled (slots_of cs)) b) ∙ h))
          where
            go : (g : Reached (List RuleCommand)) → follow xs (times c (command_form f)) b ≡ g → on_reached g (λ cs n. reached (slots_of cs) n) ≡ stuck
                → follow xs (times c (command_form f)) b ≡ stuck
            go (reached cs n) e i = let y : ◌≡◌ {A = ℕ} 0 1 = cc in absurd (omega arith)
            go stuck e i = e

      pub no-rule : most_commands < c → follow xs (rule_form f) 0 ≡ stuck
      no-rule h = rule-rest ∙ follow-not xs (then (times c (command_form f)) (λ cs. filled (rule_with xs f.event (slots_of cs) c))) b (lt-leb _ _ h)

-- ---- the slots of a rule
slots-back : (l : List Slot) → map (λ (c : RuleCommand). record { command = c }) (map (λ (s : Slot). s.command) l) ≡ l
slots-back [] = refl
slots-back (s ∷ l) = ap (λ (m : List Slot). s ∷ m) (slots-back l)

pub slots-are : (c : ℕ) (l : List Slot) → l ≡ pad most_commands zero_slot (take c l) → slots_of (map (λ (s : Slot). s.command) (take c l)) ≡ l
unfolding slots_of
slots-are c l r = ap (pad most_commands zero_slot) (slots-back (take c l)) ∙ sym r

-- ---- an array of which one more place is used
module _ {A : Type 0} (n : ℕ) (z : A) (es : List A) (used : ℕ) (fit : used < n) (rest : es ≡ pad n z (take used es)) (a : A) where
  pub more-used : take (used + 1) (set es used a) ≡ take used es ++ (a ∷ [])
  more-used = ap (λ (k : ℕ). take k (set es used a)) (add-one used) ∙ take-suc-set es used a (omega (arith, laid-room n z es used (omega arith) rest))

  pub more-laid : set es used a ≡ pad n z (take (used + 1) (set es used a))
  more-laid = laid-append n z es used (omega arith) rest a fit ∙ ap (pad n z) (sym more-used)
