-- The test of a table, part by part. It is a conjunction, so that the code may test its parts one by one.
-- Assumes nothing.
use Prim.Native.Nat.{ℕ, ◌≤◌}
use mathlib.Core.Path.{◌≡◌, refl, sym, ap, ◌∙◌}
use mathlib.Core.Bool.{Bool, true, false, ◌&&◌, ◌||◌, not, beq, false≢true, and-true}
use mathlib.Core.List.{List, [], ◌∷◌}
use Rattle.std.specs.List.{list_all}
use lib.Pointwise.{pointwise}
use Rattle.types.specs.contracts.RulePartialEq.TheImpl as rule
use Rattle.types.specs.contracts.SlotPartialEq.TheImpl as slot
use lib.ListN.{length, take, drop, replicate, length-take}
use native.Mathlib.Omega.{arith}
use lib.Dec.{leb, eqb}
use borrow.Author.Tests.{leb-true, le-leb, eqb-true, not-true}
use Rattle.lists.specs.Lists.{all, every}
use Rattle.lists.proofs.Members.{every-cons}
use Rattle.lists.proofs.Walks.{all_map, all_same, every_append}
use Rattle.types.specs.Capacities.{most_commands, most_rules}
use Rattle.types.specs.declared.RuleCommand.{RuleCommand}
use Rattle.types.specs.declared.RuleCommand.TheVariants.{SetTimer, CancelTimer, Send, Save}
use Rattle.types.specs.declared.Slot.{Slot}
use Rattle.types.specs.declared.Rule.{Rule}
use Rattle.rules.specs.Inner.{zero_slot, commands_of}
use Rattle.rules.specs.WellFormed.{command_ok, zero_command, unused, rule_ok, sound}
use Rattle.link_inner.specs.declared.Table.{Table}
use Rattle.link_inner.specs.Views.{rules_of, slot_ok, range_tests, ranges, zero_rule, blank_rule, table_ok}

-- What an index past the end would read.
abbrev pub outside : Rule
outside = record { event = 0; state = 0; low = 0; high = 0; touched = false; next = 0; commands = []; used = 0 }

-- The chain's word for a test of each element, and the rules' word.
pub all_list : {A : Type 0} (p : A → Bool) (l : List A) → list_all p l ≡ all p l
unfolding all
all_list p [] = refl
all_list p (x ∷ l) = ap (λ (b : Bool). p x && b) (all_list p l)

-- ---- the used places of a rule have commands for its event
pub slots_used : (r : Rule) → list_all (slot_ok r.event) (take r.used r.commands) ≡ all (command_ok r.event) (commands_of r)
unfolding commands_of
slots_used r = all_list _ (take r.used r.commands) ∙ all_map (command_ok r.event) (λ (s : Slot). s.command) (take r.used r.commands)

-- A rule's numbers, and the other parts of its test.
abbrev start_test : Rule → Bool
start_test r = leb 2 r.event || (eqb r.state 0 && r.touched)

abbrev keep_test : Rule → Bool
keep_test r = r.touched || eqb r.next r.state

abbrev used_test : Rule → Bool
used_test r = list_all (slot_ok r.event) (take r.used r.commands)

abbrev rest_test : Rule → Bool
rest_test r = list_all unused (drop r.used r.commands)

pub rule_parts : (r : Rule) → rule_ok r ≡ every (ranges r ∷ start_test r ∷ keep_test r ∷ used_test r ∷ rest_test r ∷ [])
unfolding rule_ok ranges every
rule_parts r =
    rw (slots_used r, all_list unused (drop r.used r.commands))
    (every_append (range_tests r) (start_test r ∷ keep_test r ∷ all (command_ok r.event) (commands_of r) ∷ all unused (drop r.used r.commands) ∷ []))

pub ranges-used : (r : Rule) → ranges r ≡ true → r.used ≤ most_commands
unfolding ranges
ranges-used r e =
    let a = every-cons _ _ e in let b = every-cons _ _ a.1 in let c = every-cons _ _ b.1 in leb-true _ _ (every-cons _ _ c.1).0

-- ---- a table: the count of its rules fits where its own count does
few : (n : ℕ) (l : List Rule) → leb n most_rules ≡ true → leb (length (take n l)) most_rules ≡ true
few n l h = le-leb _ _ (omega (arith, leb-true n most_rules h, length-take {A = Rule}))

told-twice : (a b c d : Bool) → (a ≡ true → c ≡ true) → (a && (b && ((c && d) && true))) ≡ (a && (b && d))
told-twice true b c d f = rw (f refl, and-true)
told-twice false b c d f = refl

pub table_parts : (t : Table) → table_ok t ≡ (leb t.used most_rules && (list_all blank_rule (drop t.used t.rules) && list_all rule_ok (rules_of t)))
unfolding table_ok every sound
table_parts t =
    rw (all_list blank_rule (drop t.used t.rules), all_list rule_ok (rules_of t))
    (told-twice (leb t.used most_rules) (all blank_rule (drop t.used t.rules)) _ (all rule_ok (rules_of t)) (few t.used t.rules))

-- What a table that passes the test is.
pub record Fine (t : Table) : Type 0 where
  pub fit : t.used ≤ most_rules
  pub rest : all blank_rule (drop t.used t.rules) ≡ true
  pub good : sound (rules_of t) ≡ true

pub table_is : (t : Table) → table_ok t ≡ true → Fine t
unfolding table_ok
table_is t e = let a = every-cons _ _ e in let b = every-cons _ _ a.1 in record { fit = leb-true _ _ a.0; rest = b.0; good = (every-cons _ _ b.1).0 }

-- ---- a rule with its places that is found blank is the zero rule, and no other
zero-command : (c : RuleCommand) → zero_command c ≡ true → c ≡ SetTimer 0
unfolding zero_command
zero-command (SetTimer t) q = ap SetTimer (eqb-true t 0 q)
zero-command (CancelTimer t) q = absurd (false≢true q)
zero-command (Send a b c d) q = absurd (false≢true q)
zero-command (Save a b) q = absurd (false≢true q)

pub zero-slot : (s : Slot) → unused s ≡ true → s ≡ zero_slot
unfolding unused
zero-slot s e = let f = zero-command s.command e in λ i. record { command = f i }

pub blank-is : (r : Rule) → length r.commands ≡ most_commands → blank_rule r ≡ true → r ≡ zero_rule
unfolding blank_rule
blank-is r n e =
    let a = every-cons _ _ e in let b = every-cons _ _ a.1 in let c = every-cons _ _ b.1 in let d = every-cons _ _ c.1 in
    let f = every-cons _ _ d.1 in let g = every-cons _ _ f.1 in let h = every-cons _ _ g.1 in let k = every-cons _ _ h.1 in
    let e1 = eqb-true r.event 0 a.0 in let e2 = eqb-true r.state 0 b.0 in
    let e3 = eqb-true r.low 0 c.0 in let e4 = eqb-true r.high 0 d.0 in
    let e5 = not-true r.touched f.0 in let e6 = eqb-true r.next 0 g.0 in let e7 = eqb-true r.used 0 h.0 in
    let e8 : r.commands ≡ replicate most_commands zero_slot = all_same unused zero_slot zero-slot r.commands k.0
    ∙ ap (λ (m : ℕ). replicate m zero_slot) n in
    λ i. record { event = e1 i; state = e2 i; low = e3 i; high = e4 i; touched = e5 i; next = e6 i; commands = e8 i; used = e7 i }

pub zero-blank : blank_rule zero_rule ≡ true
unfolding blank_rule unused zero_command every all
zero-blank = refl

-- ---- a rule that equals the zero rule is blank
same-unused : (c : RuleCommand) → slot.eq-value.it (record { command = c }) zero_slot ≡ zero_command c
unfolding zero_command
same-unused (SetTimer t) = refl
same-unused (CancelTimer t) = refl
same-unused (Send a b c d) = refl
same-unused (Save a b) = refl

same-slots : (l : List Slot) → pointwise slot.eq-value.it l (replicate (length l) zero_slot) ≡ all unused l
unfolding all unused
same-slots [] = refl
same-slots (s ∷ l) = rw (same-unused s.command, same-slots l)

same-flag : (b : Bool) → beq b false ≡ not b
same-flag true = refl
same-flag false = refl

other-way : (a b : Bool) → (a && b) ≡ (b && (a && true))
other-way true true = refl
other-way true false = refl
other-way false true = refl
other-way false false = refl

pub zero-same : (r : Rule) → length r.commands ≡ most_commands → rule.ghosts.eq r zero_rule ≡ blank_rule r
unfolding blank_rule every
zero-same r n =
    let e : pointwise slot.eq-value.it r.commands (replicate most_commands zero_slot) ≡ all unused r.commands
    = ap (λ (m : ℕ). pointwise slot.eq-value.it r.commands (replicate m zero_slot)) (sym n) ∙ same-slots r.commands in
    rw (same-flag r.touched, e, other-way (all unused r.commands) (eqb r.used 0))
