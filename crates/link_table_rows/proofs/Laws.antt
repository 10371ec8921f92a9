-- The row of a sound rule is the rule again, and is laid out. A rule's places that are not used hold zero, so that what is counted
-- over all four places is what its commands count for.
-- Assumes nothing.
use Prim.Native.Nat.{ℕ, zero, suc, ◌+◌, ◌*◌, ◌/◌, ◌%◌, ◌-◌, ◌≤◌, ◌<◌}
use native.Mathlib.Omega.{arith}
use mathlib.Core.Path.{◌≡◌, refl, sym, ap, ◌∙◌, subst}
use mathlib.Core.Bool.{Bool, true, false, ◌||◌}
use mathlib.Core.List.{List, [], ◌∷◌, map}
use lib.ListN.{length, take, drop, get_or, replicate, take-append-drop, length-drop}
use lib.Seq.{length-take-le}
use lib.Dec.{eqb}
use borrow.Author.Tests.{leb-true}
use Rattle.std.specs.Int.{from_bool}
use Rattle.std.proofs.lemmas.List.{take-map}
use Rattle.lists.specs.Lists.{any, all, pad}
use Rattle.lists.proofs.Members.{and_both, every-cons}
use Rattle.lists.proofs.Walks.{map_back, all_same}
use Rattle.types.specs.Capacities.{most_commands, last_state}
use Rattle.types.specs.declared.Id.{Id}
use Rattle.types.specs.declared.InnerCommand.{InnerCommand}
use Rattle.types.specs.declared.InnerCommand.TheVariants as inner
use Rattle.types.specs.declared.RuleCommand.{RuleCommand}
use Rattle.types.specs.declared.RuleCommand.TheVariants.{SetTimer, CancelTimer, Send, Save}
use Rattle.types.specs.declared.Slot.{Slot}
use Rattle.types.specs.declared.Rule.{Rule}
use Rattle.rules.specs.Inner.{zero_slot, slots_of, commands_of, told}
use Rattle.rules.specs.Link.{durably}
use Rattle.rules.specs.WellFormed.{unused, rule_ok}
use Rattle.link_direct.specs.Direct.{sends}
use Rattle.link_inner.proofs.Tables.{zero-slot}
use Rattle.link_tables.specs.Rows.{mark, command_in, commands_in, rule_in, orders, RowLaid}
use Rattle.link_table_rows.specs.Layout.{words_of, words_at, Fits, row_with, row_of, Laid}
use Rattle.link_table_rows.specs.declared.Words.{Words}

-- ---- a command
mark-flag : (n : ℕ) (b : Bool) → n % 2 ≡ from_bool b → mark n ≡ b
mark-flag n true e = rw e
mark-flag n false e = rw e

flag-back : (b : Bool) → mark (from_bool b) ≡ b
flag-back true = refl
flag-back false = refl

flag_one : (b : Bool) → eqb (from_bool b) 1 ≡ b
flag_one true = refl
flag_one false = refl

flag-few : (b : Bool) → from_bool b ≤ 1
flag-few true = omega arith
flag-few false = omega arith

-- The third and the fourth bit of a send's head.
third : (m n d : ℕ) → m ≤ 1 → n ≤ 1 → (2 + 4 * m + 8 * n + 16 * d) / 4 % 2 ≡ m
third m n d h k = omega arith

fourth : (m n d : ℕ) → m ≤ 1 → n ≤ 1 → (2 + 4 * m + 8 * n + 16 * d) / 8 % 2 ≡ n
fourth m n d h k = omega arith

command-back : (c : RuleCommand) → command_in (words_of c).head (words_of c).word ≡ c
unfolding command_in words_of
command-back (SetTimer t) =
    let k : 16 * t % 4 ≡ 0 = omega arith in
    let n : 16 * t / 16 ≡ t = omega arith in
    rw (k, n)
command-back (CancelTimer t) =
    let k : (1 + 16 * t) % 4 ≡ 1 = omega arith in
    let n : (1 + 16 * t) / 16 ≡ t = omega arith in
    rw (k, n)
command-back (Send a d b p) = go (from_bool a) (from_bool b) (flag-few a) (flag-few b) refl refl
  where
    go : (m n : ℕ) → m ≤ 1 → n ≤ 1 → m ≡ from_bool a → n ≡ from_bool b → command_in (2 + 4 * m + 8 * n + 16 * d.0) p.0 ≡ Send a d b p
    go m n h k e f =
        let w = 2 + 4 * m + 8 * n + 16 * d.0 in
        let z : w % 4 ≡ 2 = omega arith in
        let x : w / 16 ≡ d.0 = omega arith in
        let y = mark-flag (w / 4) a (third m n d.0 h k ∙ e) in
        let v = mark-flag (w / 8) b (fourth m n d.0 h k ∙ f) in
        rw (z, x, y, v)
command-back (Save b v) = go (from_bool b) (flag-few b) refl
  where
    go : (n : ℕ) → n ≤ 1 → n ≡ from_bool b → command_in (3 + 8 * n) v ≡ Save b v
    go n k f =
        let z : (3 + 8 * n) % 4 ≡ 3 = omega arith in
        let y = mark-flag ((3 + 8 * n) / 8) b (omega arith) in
        rw (z, y)

-- What it counts for, whatever is filled in.
module _ (source : Id) (value : ℕ) where
  sends-one : (c : RuleCommand) (os : List InnerCommand) → sends (told source value c ∷ os) ≡ from_bool (words_of c).sent + sends os
  unfolding sends told words_of
  sends-one (SetTimer t) os = omega arith
  sends-one (CancelTimer t) os = omega arith
  sends-one (Send a d b p) os = omega arith
  sends-one (Save b v) os = omega arith

  keeps-one : (c : RuleCommand) (os : List InnerCommand) → any durably (told source value c ∷ os) ≡ ((words_of c).kept || any durably os)
  unfolding any durably told words_of
  keeps-one (SetTimer t) os = refl
  keeps-one (CancelTimer t) os = refl
  keeps-one (Send a d b p) os = refl
  keeps-one (Save b v) os = refl

one-by-one : (a b c d : Bool) → (a || b || c || d) ≡ (a || (b || (c || (d || false))))
one-by-one true b c d = refl
one-by-one false true c d = refl
one-by-one false false true d = refl
one-by-one false false false true = refl
one-by-one false false false false = refl

-- ---- what a sound rule's test says
record Good (r : Rule) : Type 0 where
  state : r.state ≤ last_state
  next : r.next ≤ last_state
  used : r.used ≤ most_commands
  rest : all unused (drop r.used r.commands) ≡ true

good : (r : Rule) → rule_ok r ≡ true → Good r
unfolding rule_ok
good r e =
    let a = every-cons _ _ e in let b = every-cons _ _ a.1 in let c = every-cons _ _ b.1 in let d = every-cons _ _ c.1 in
    let f = every-cons _ _ d.1 in let g = every-cons _ _ f.1 in let h = every-cons _ _ g.1 in let i = every-cons _ _ h.1 in
    record { state = leb-true _ _ b.0; next = leb-true _ _ c.0; used = leb-true _ _ d.0; rest = (every-cons _ _ i.1).0 }

abbrev command_is : Slot → RuleCommand
command_is s = s.command

abbrev four_of : List Slot → List RuleCommand
four_of l = command_is (get_or l 0 zero_slot) ∷ command_is (get_or l 1 zero_slot) ∷ command_is (get_or l 2 zero_slot) ∷ command_is (get_or l 3 zero_slot) ∷ []

all-four : (l : List Slot) → length l ≡ most_commands → map command_is l ≡ four_of l
all-four (a ∷ b ∷ c ∷ d ∷ []) h = refl
all-four [] h = absurd (omega arith)
all-four (a ∷ []) h = absurd (omega arith)
all-four (a ∷ b ∷ []) h = absurd (omega arith)
all-four (a ∷ b ∷ c ∷ []) h = absurd (omega arith)
all-four (a ∷ b ∷ c ∷ d ∷ e ∷ l) h = absurd (omega arith)

-- Zero commands at the end change nothing that they do not count for.
module _ {B : Type 0} (f : List InnerCommand → B) (source : Id) (value : ℕ) (skip : (os : List InnerCommand) → f (inner.SetTimer 0 ∷ os) ≡ f os)
    (keep : (x : InnerCommand) (os ps : List InnerCommand) → f os ≡ f ps → f (x ∷ os) ≡ f (x ∷ ps)) where
  abbrev counted : List Slot → B
  counted l = f (map (told source value) (map command_is l))

  rest-skipped : (n : ℕ) (l : List Slot) → all unused (drop n l) ≡ true → counted (take n l) ≡ counted l
  unfolding all told
  rest-skipped zero [] h = refl
  rest-skipped zero (x ∷ l) h = let b = and_both (unused x) _ h in rest-skipped zero l b.1 ∙ sym (skip _) ∙ rw (zero-slot x b.0)
  rest-skipped (suc n) [] h = refl
  rest-skipped (suc n) (x ∷ l) h = keep (told source value (command_is x)) _ _ (rest-skipped n l h)

sends-keep : (x : InnerCommand) (os ps : List InnerCommand) → sends os ≡ sends ps → sends (x ∷ os) ≡ sends (x ∷ ps)
unfolding sends
sends-keep (inner.SetTimer t) os ps e = e
sends-keep (inner.CancelTimer t) os ps e = e
sends-keep (inner.Save v) os ps e = e
sends-keep (inner.Send d p) os ps e = ap suc e

-- ---- the row of a sound rule
module _ (r : Rule) (room : length r.commands ≡ most_commands) (fine : Good r) where
  abbrev at : ℕ → RuleCommand
  at i = command_is (get_or r.commands i zero_slot)

  -- Its places are those of its commands.
  slots-are : r.commands ≡ slots_of (commands_of r)
  unfolding slots_of commands_of pad
  slots-are =
      let u = fine.used in
      let l = take r.used r.commands in
      let m = drop r.used r.commands in
      let n = length-take-le r.used r.commands (omega arith) in
      let k : length m ≡ most_commands - length l = omega (arith, length-drop r.used r.commands) in
      let z = all_same unused zero_slot zero-slot m fine.rest ∙ ap (λ (j : ℕ). replicate j zero_slot) k in
      sym (take-append-drop r.used r.commands) ∙ rw (z, map_back command_is (λ (c : RuleCommand). record { command = c }) (λ s. refl) l)

  commands-are : take r.used (commands_in (row_of r)) ≡ commands_of r
  unfolding commands_in row_of commands_of
  commands-are =
      rw (command-back (at 0), command-back (at 1), command-back (at 2), command-back (at 3), ← all-four r.commands room)
      (take-map command_is r.used r.commands)

  rule-back : rule_in (row_of r) ≡ r
  unfolding rule_in row_of
  rule-back =
      let s = fine.state in
      let a : (r.event * 16 + r.state) / 16 ≡ r.event = omega arith in
      let b : (r.event * 16 + r.state) % 16 ≡ r.state = omega arith in
      let c = flag-back r.touched in
      let d = ap slots_of (unfold row_of in commands-are) ∙ sym slots-are in
      λ i. record { event = a i; state = b i; low = r.low; high = r.high; touched = c i; next = r.next; commands = d i; used = r.used }

  module _ (source : Id) (value : ℕ) where
    abbrev say : List RuleCommand → List InnerCommand
    say = map (told source value)

    -- Whatever zero commands do not count for is that of all four places.
    over-four : {B : Type 0} (f : List InnerCommand → B) → ((os : List InnerCommand) → f (inner.SetTimer 0 ∷ os) ≡ f os)
        → ((x : InnerCommand) (os ps : List InnerCommand) → f os ≡ f ps → f (x ∷ os) ≡ f (x ∷ ps))
        → f (orders (row_of r) source value) ≡ f (say (four_of r.commands))
    unfolding orders row_of commands_of
    over-four f skip keep =
        ap (λ (l : List RuleCommand). f (say l)) commands-are
        ∙ rest-skipped f source value skip keep r.used r.commands fine.rest
        ∙ ap (λ (l : List RuleCommand). f (say l)) (all-four r.commands room)

    -- What is said from a place on.
    abbrev from : ℕ → List InnerCommand
    from i = drop i (say (four_of r.commands))

    sends-are : get_or (row_of r) 14 0 ≡ sends (orders (row_of r) source value)
    unfolding row_of sends
    sends-are =
        let a = sends-one source value (at 0) (from 1) in
        let b = sends-one source value (at 1) (from 2) in
        let c = sends-one source value (at 2) (from 3) in
        let d = sends-one source value (at 3) [] in
        let e = over-four sends (λ os. refl) sends-keep in
        omega arith

    durable-is : eqb (get_or (row_of r) 15 0) 1 ≡ any durably (orders (row_of r) source value)
    unfolding row_of any durably
    durable-is =
        let k = λ (i : ℕ). (words_at r i).kept in
        let a = keeps-one source value (at 0) (from 1) in
        let b = keeps-one source value (at 1) (from 2) in
        let c = keeps-one source value (at 2) (from 3) in
        let d = keeps-one source value (at 3) [] in
        let e = over-four (any durably) (λ os. refl) (λ x os ps h. ap (λ (t : Bool). durably x || t) h) in
        flag_one _ ∙ one-by-one (k 0) (k 1) (k 2) (k 3)
        ∙ sym (e ∙ a ∙ ap (λ (t : Bool). k 0 || t) (b ∙ ap (λ (t : Bool). k 1 || t) (c ∙ ap (λ (t : Bool). k 2 || t) d)))

  row_laid : ((i : ℕ) → i < most_commands → Fits (words_at r i)) → RowLaid (row_of r)
  unfolding row_of
  row_laid f = record {
    room = refl;
    next = let z = fine.next in omega arith;
    used = fine.used;
    head = heads;
    word = words;
    sends = unfold row_of in sends-are;
    durable = unfold row_of in durable-is;
  }
    where
      heads : (i : ℕ) → i < most_commands → get_or (row_of r) (6 + 2 * i) 0 < 4096
      heads zero h = (f 0 h).head
      heads (suc zero) h = (f 1 h).head
      heads (suc (suc zero)) h = (f 2 h).head
      heads (suc (suc (suc zero))) h = (f 3 h).head
      heads (suc (suc (suc (suc i)))) h = absurd (omega arith)

      words : (i : ℕ) → i < most_commands → get_or (row_of r) (7 + 2 * i) 0 < 4294967296
      words zero h = (f 0 h).word
      words (suc zero) h = (f 1 h).word
      words (suc (suc zero)) h = (f 2 h).word
      words (suc (suc (suc zero))) h = (f 3 h).word
      words (suc (suc (suc (suc i)))) h = absurd (omega arith)

-- What the code lays out.
pub row_is : (r : Rule) → length r.commands ≡ most_commands → (ws : List Words) (z : Words)
    → ((i : ℕ) → i < most_commands → (get_or ws i z ≡ words_at r i) × Fits (get_or ws i z))
    → (x : List ℕ) → x ≡ row_with r (get_or ws 0 z) (get_or ws 1 z) (get_or ws 2 z) (get_or ws 3 z) → Laid r x
unfolding row_of
row_is r room ws z f x e = record {
  is = is;
  good = λ ok.
      let g = good r ok in
      let laid = row_laid r room g (λ i h. subst Fits (f i h).0 (f i h).1) in
      (ap rule_in is ∙ rule-back r room g, subst RowLaid (sym is) laid);
}
  where
    is : x ≡ row_of r
    is = e ∙ rw ((f 0 (omega arith)).0, (f 1 (omega arith)).0, (f 2 (omega arith)).0, (f 3 (omega arith)).0)
