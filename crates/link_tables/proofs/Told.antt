-- A command's two words, and a row's commands.
-- Assumes nothing.
use Prim.Native.Nat.{ℕ, zero, suc, ◌+◌, ◌*◌, ◌≤◌, ◌<◌}
use native.Mathlib.Omega.{arith}
use native.Mathlib.Numerals.{add-one}
use mathlib.Core.Path.{◌≡◌, refl, ap, ◌∙◌}
use mathlib.Core.Bool.{Bool, true, false}
use mathlib.Core.List.{List, [], ◌∷◌, map}
use lib.ListN.{length, take, drop, get_or, replicate, length-map, get_or-map, get_or-replicate, drop_of_length-le}
use lib.Seq.{get_or-take, length-take-le, take_at, drop-cons}
use Rattle.lists.specs.Lists.{choose, any, pad}
use Rattle.lists.proofs.Walks.{map_back}
use Rattle.types.specs.Capacities.{most_commands}
use Rattle.types.specs.declared.Id.{Id}
use Rattle.types.specs.declared.Payload.{Payload}
use Rattle.types.specs.declared.InnerCommand.{InnerCommand}
use Rattle.types.specs.declared.InnerCommand.TheVariants.{SetTimer, CancelTimer, Send, Save}
use Rattle.types.specs.declared.RuleCommand.{RuleCommand}
use Rattle.types.specs.declared.RuleCommand.TheVariants as rule
use Rattle.types.specs.declared.Slot.{Slot}
use Rattle.rules.specs.Inner.{told, slots_of, commands_of, decided}
use Rattle.link_direct.specs.Direct.{sends}
use Rattle.link_tables.specs.Rows.{mark, command_at, commands_in, rule_in, orders, order_at, replied, RowLaid}

-- The payload of a send is a struct of its word.
pub filled : (value v : ℕ) (b : Bool) → ◌≡◌ {A = Payload} (record { 0 = choose b value v }) (choose b (record { 0 = value }) (record { 0 = v }))
unfolding choose
filled value v true = refl
filled value v false = refl

-- ---- the commands of a row
get_or-commands : (r : List ℕ) (z : RuleCommand) (i : ℕ) → i < most_commands → get_or (commands_in r) i z ≡ command_at r i
unfolding commands_in
get_or-commands r z zero h = refl
get_or-commands r z (suc zero) h = refl
get_or-commands r z (suc (suc zero)) h = refl
get_or-commands r z (suc (suc (suc zero))) h = refl
get_or-commands r z (suc (suc (suc (suc i)))) h = absurd (omega arith)

four : (r : List ℕ) → length (commands_in r) ≡ 4
unfolding commands_in
four r = refl

sends-few : (os : List InnerCommand) → sends os ≤ length os
unfolding sends
sends-few [] = omega arith
sends-few (SetTimer t ∷ os) = omega (arith, sends-few os)
sends-few (CancelTimer t ∷ os) = omega (arith, sends-few os)
sends-few (Save v ∷ os) = omega (arith, sends-few os)
sends-few (Send r p ∷ os) = omega (arith, sends-few os)

module _ (r : List ℕ) (source : Id) (value : ℕ) (laid : RowLaid r) where
  used-is : length (take (get_or r 5 0) (commands_in r)) ≡ get_or r 5 0
  used-is = let z = four r in let w = laid.used in length-take-le (get_or r 5 0) (commands_in r) (omega arith)

  -- As many as the row says, and that is few.
  pub orders-count : length (orders r source value) ≡ get_or r 5 0
  unfolding orders
  orders-count = length-map (take (get_or r 5 0) (commands_in r)) (told source value) ∙ used-is

  pub row-four : length (orders r source value) ≤ most_commands
  row-four = let e = orders-count in let w = laid.used in omega arith

  pub row-sends : sends (orders r source value) ≤ most_commands
  row-sends = let e = row-four in let w = sends-few (orders r source value) in omega arith

  -- The next command, and the end.
  order-at : (i : ℕ) → i < get_or r 5 0 → get_or (orders r source value) i (SetTimer 0) ≡ order_at r source value i
  unfolding orders told
  order-at i h =
      let w = laid.used in
      get_or-map (told source value) (take (get_or r 5 0) (commands_in r)) i (rule.SetTimer 0)
      ∙ ap (told source value) (get_or-take (get_or r 5 0) (commands_in r) i (rule.SetTimer 0) h ∙ get_or-commands r (rule.SetTimer 0) i (omega arith))

  pub split_at : (i : ℕ) → i < get_or r 5 0 → (x : InnerCommand) → x ≡ order_at r source value i
      → drop i (orders r source value) ≡ x ∷ drop (i + 1) (orders r source value)
  split_at i h x e = rw (e, add-one i, ← order-at i h) (drop-cons (orders r source value) i (SetTimer 0) (omega (arith, orders-count)))

  pub orders-end : (i : ℕ) → i ≡ get_or r 5 0 → drop i (orders r source value) ≡ []
  orders-end i e = drop_of_length-le (orders r source value) {i = i} (omega (arith, orders-count))

-- The used ones of a rule's places are its commands.
slots-back : (l : List RuleCommand) (n : ℕ) → length l ≡ n → map (λ (s : Slot). s.command) (take n (slots_of l)) ≡ l
unfolding slots_of pad
slots-back l n e =
    ap (map (λ (s : Slot). s.command)) (take_at (map slot l) _ n (length-map l slot ∙ e)) ∙ map_back slot (λ (s : Slot). s.command) (λ c. refl) l
  where
    slot : RuleCommand → Slot
    slot c = record { command = c }

-- A row's rule decides what the row says.
pub row-decides : (r : List ℕ) (source : Id) (value : ℕ) → RowLaid r → decided source value (rule_in r) ≡ replied r source value
unfolding decided orders rule_in commands_of
row-decides r source value laid =
    let e = slots-back (take (get_or r 5 0) (commands_in r)) (get_or r 5 0) (used-is r source value laid) in
    λ i. record { touched = mark (get_or r 3 0); state = get_or r 4 0; out = map (told source value) (e i) }

-- A row of zeros has no command.
pub zero-laid : RowLaid (replicate 16 0)
unfolding orders sends any
zero-laid = record {
  room = refl;
  next = omega arith;
  used = omega arith;
  head = λ i h. let z = get_or-replicate {A = ℕ} 16 (6 + 2 * i) 0 0 (omega arith) in omega arith;
  word = λ i h. let z = get_or-replicate {A = ℕ} 16 (7 + 2 * i) 0 0 (omega arith) in omega arith;
  sends = λ source value. refl;
  durable = λ source value. refl;
}
