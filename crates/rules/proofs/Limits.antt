-- Each limit, by computation: the last value that is accepted, and the first that is not. Each reason for which a table is unsound,
-- or a system not well formed, alone in what is otherwise fine. Places of a rule, decimals, the line `bad 0`.
-- Assumes nothing.
use Prim.Native.Nat.{ℕ, zero, suc}
use mathlib.Core.Path.{◌≡◌, refl}
use mathlib.Core.Bool.{true, false}
use Rattle.std.specs.Prelude.{Some, None}
use mathlib.Core.List.{List, [], ◌∷◌, ◌++◌}
use lib.ListN.{replicate}
use Rattle.types.specs.declared.Pending.{Pending}
use Rattle.types.specs.declared.InnerCommand.{InnerCommand}
use Rattle.types.specs.declared.InnerCommand.TheVariants as inner
use Rattle.types.specs.declared.Kind.TheVariants.{Ordered, UnorderedDuplicating, UnorderedNonDuplicating}
use Rattle.types.specs.declared.Rule.{Rule}
use Rattle.types.specs.declared.RuleCommand.{RuleCommand}
use Rattle.types.specs.declared.RuleCommand.TheVariants as rule
use Rattle.rules.specs.Outcome.{done, refused, base}
use Rattle.types.specs.Capacities.{network}
use Rattle.rules.specs.Timers.{set_timer}
use Rattle.rules.specs.Network.{Net, send}
use Rattle.rules.specs.Inner.{zero_slot, slots_of}
use Rattle.rules.specs.Link.{Durable, fresh, Send, Save, Sent, output}
use Rattle.rules.specs.System.{Actor, Sys, with_storage, with_mark}
use Rattle.rules.specs.WellFormed.{sound, well_formed}
use Rattle.rules.specs.Start.{Setup, startable}
use Rattle.rules.specs.Script.{versions}
use Rattle.rules.specs.Program.{decimal, replayed, replay}
use Rattle.rules.specs.Sheet.{id, msg, ack, env, pending, rule_by, rule_of, net, live, sys, two, last_taken_is, a, b}
use Rattle.rules.proofs.Opened.{opened}

-- So many copies of a, and nothing else.
abbrev copies : ℕ → Net
copies n = record { kind = UnorderedNonDuplicating; entries = record { envelope = a; count = n } ∷ []; last = None }

-- Messages 1 to n are pending.
pub waits : ℕ → List Pending
waits zero = []
waits (suc n) = waits n ++ pending (suc n) 1 7 ∷ []

abbrev waiting : ℕ → Durable
waiting n = record { next = record { 0 = suc n }; pending = waits n; taken = []; inner = None }

-- The next number is n, with these pending.
abbrev next_is : ℕ → List Pending → Durable
next_is n qs = record { next = record { 0 = n }; pending = qs; taken = []; inner = None }

abbrev send7 : List InnerCommand
send7 = inner.Send (id 1) (record { 0 = 7 }) ∷ []

-- A message rule with these commands.
abbrev doing : List RuleCommand → List Rule
doing cs = rule_of 2 0 0 9 0 cs ∷ []

-- One with this command in an unused place.
abbrev unused : RuleCommand → List Rule
unused c = record { event = 2; state = 0; low = 0; high = 9; touched = true; next = 0; commands = slots_of (c ∷ []); used = 0 } ∷ []

abbrev to_source : ℕ → RuleCommand
to_source d = rule.Send true (id d) false (record { 0 = 7 })

abbrev in_state : ℕ → Actor
in_state n = record { rules = []; crashed = false; timers = []; link = record { durable = fresh; state = n }; storage = None }

abbrev kinded : ℕ → Setup
kinded k = record { kind = k }

abbrev alone : Net → Actor → Sys
alone n x = record { net = n; actors = x ∷ [] }

pub record Limits : Type 0 where
  -- entries 128 and 129, copies 65,535 and 65,536
  pub entry-128 : send base.room b (net Ordered (replicate 127 a) None) ≡ done (net Ordered (replicate 127 a ++ b ∷ []) None)
  pub entry-129 : send base.room b (net Ordered (replicate 128 a) None) ≡ refused 8
  pub copy-65535 : send base.room a (copies 65534) ≡ done (copies 65535)
  pub copy-65536 : send base.room a (copies 65535) ≡ refused 8
  -- pending 32 and 33, number 2^64 - 2 and the one after it; 6 before 7
  pub pending-32 : output base.limits (id 0) (waiting 31) send7
      ≡ done (record { durable = waiting 32; commands = Send (id 1) (msg 32 7) ∷ Save (waiting 32) ∷ []; events = Sent (id 0) (pending 32 1 7) ∷ [] })
  pub pending-33 : output base.limits (id 0) (waiting 32) send7 ≡ refused 7
  pub last-number : output base.limits (id 0) (next_is 18446744073709551614 []) send7
      ≡ done (record {
        durable = next_is 18446744073709551615 (pending 18446744073709551614 1 7 ∷ []);
        commands = Send (id 1) (msg 18446744073709551614 7) ∷ Save (next_is 18446744073709551615 (pending 18446744073709551614 1 7 ∷ [])) ∷ [];
        events = Sent (id 0) (pending 18446744073709551614 1 7) ∷ [];
      })
  pub no_number : output base.limits (id 0) (next_is 18446744073709551615 []) send7 ≡ refused 6
  pub no-number-first : output base.limits (id 0) (next_is 18446744073709551615 (waits 32)) send7 ≡ refused 6
  -- a table: timers 30 and 31, states 15 and 16, events 3 and 4, commands 4 and 5, rules 16 and 17
  pub set-30 : sound (doing (rule.SetTimer 30 ∷ [])) ≡ true
  pub set-31 : sound (doing (rule.SetTimer 31 ∷ [])) ≡ false
  pub cancel-30 : sound (doing (rule.CancelTimer 30 ∷ [])) ≡ true
  pub cancel-31 : sound (doing (rule.CancelTimer 31 ∷ [])) ≡ false
  pub state-15 : sound (rule_of 3 15 0 9 15 [] ∷ []) ≡ true
  pub state-16 : sound (rule_of 3 16 0 9 15 [] ∷ []) ≡ false
  pub next-16 : sound (rule_of 3 15 0 9 16 [] ∷ []) ≡ false
  pub event-4 : sound (rule_of 4 15 0 9 15 [] ∷ []) ≡ false
  pub command-4 : sound (doing (replicate 4 (rule.SetTimer 1))) ≡ true
  pub command-5 : sound (doing (replicate 5 (rule.SetTimer 1))) ≡ false
  pub rule-16 : sound (replicate 16 (rule_of 2 0 0 9 0 [])) ≡ true
  pub rule-17 : sound (replicate 17 (rule_of 2 0 0 9 0 [])) ≡ false
  pub low-is-high : sound (rule_of 2 0 9 9 0 [] ∷ []) ≡ true
  pub low-above-high : sound (rule_of 2 0 10 9 0 [] ∷ []) ≡ false
  -- a table: start rules have state 0 and touched, an untouched rule keeps its state, "the source" in message rules only, unused fields zero
  pub start-in-1 : sound (rule_of 0 1 0 9 1 [] ∷ []) ≡ false
  pub start-untouched : sound (rule_by false 1 0 0 9 0 [] ∷ []) ≡ false
  pub untouched-moves : sound (rule_by false 2 0 0 9 1 [] ∷ []) ≡ false
  pub source-of-message : sound (doing (to_source 0 ∷ [])) ≡ true
  pub source-of-timeout : sound (rule_of 3 0 0 9 0 (to_source 0 ∷ []) ∷ []) ≡ false
  pub source-and-destination : sound (doing (to_source 1 ∷ [])) ≡ false
  pub echo-and-payload : sound (doing (rule.Send false (id 1) true (record { 0 = 7 }) ∷ [])) ≡ false
  pub echo-and-value : sound (doing (rule.Save true 7 ∷ [])) ≡ false
  pub echo-payload : sound (doing (rule.Send false (id 1) true (record { 0 = 0 }) ∷ [])) ≡ true
  pub echo-value : sound (doing (rule.Save true 0 ∷ [])) ≡ true
  pub own_value : sound (doing (rule.Save false 7 ∷ [])) ≡ true
  pub unused-set : sound (unused (rule.SetTimer 1)) ≡ false
  pub unused-cancel : sound (unused (rule.CancelTimer 0)) ≡ false
  pub unused-send : sound (unused (rule.Send false (id 0) false (record { 0 = 0 }))) ≡ false
  pub unused-save : sound (unused (rule.Save false 0)) ≡ false
  pub unused-zero : sound (unused (rule.SetTimer 0)) ≡ true
  pub four-places : slots_of [] ≡ zero_slot ∷ zero_slot ∷ zero_slot ∷ zero_slot ∷ []
  -- a start: actors 1 and 0, 8 and 9, kinds 2 and 3, sources up to the actor count
  pub actor-1 : startable (kinded 0) ([] ∷ []) [] ≡ true
  pub actor-0 : startable (kinded 0) [] [] ≡ false
  pub actor-8 : startable (kinded 0) (replicate 8 []) [] ≡ true
  pub actor-9 : startable (kinded 0) (replicate 9 []) [] ≡ false
  pub kind_2 : startable (kinded 2) ([] ∷ []) [] ≡ true
  pub kind_3 : startable (kinded 3) ([] ∷ []) [] ≡ false
  pub source-0 : startable (kinded 0) ([] ∷ []) (env 0 9 (ack 1) ∷ []) ≡ true
  pub source-1 : startable (kinded 0) ([] ∷ []) (env 1 0 (ack 1) ∷ []) ≡ false
  -- a system: the same limits, and timers 31 and 32
  pub holds-128 : well_formed base (sys Ordered (replicate 128 a) (two [] fresh)) ≡ true
  pub holds-129 : well_formed base (sys Ordered (replicate 129 a) (two [] fresh)) ≡ false
  pub counts-65535 : well_formed base (alone (copies 65535) (in_state 0)) ≡ true
  pub counts-65536 : well_formed base (alone (copies 65536) (in_state 0)) ≡ false
  pub waits-32 : well_formed base (sys Ordered [] (two [] (waiting 32))) ≡ true
  pub waits-33 : well_formed base (sys Ordered [] (two [] (waiting 33))) ≡ false
  pub in-15 : well_formed base (alone (net Ordered [] None) (in_state 15)) ≡ true
  pub in-16 : well_formed base (alone (net Ordered [] None) (in_state 16)) ≡ false
  pub timer-31 : well_formed base (sys Ordered [] (live [] fresh (network ∷ []) ∷ [])) ≡ true
  pub timer-32 : well_formed base (sys Ordered [] (live [] fresh (32 ∷ []) ∷ [])) ≡ false
  pub actors-8 : well_formed base (sys Ordered [] (replicate 8 (live [] fresh []))) ≡ true
  pub actors-9 : well_formed base (sys Ordered [] (replicate 9 (live [] fresh []))) ≡ false
  -- a system: order, counts, the last message, numbers, a crashed actor's timers, the storage
  pub out_of_order : well_formed base (sys UnorderedDuplicating (b ∷ a ∷ []) (two [] fresh)) ≡ false
  pub equal-entries : well_formed base (sys UnorderedDuplicating (a ∷ a ∷ []) (two [] fresh)) ≡ false
  pub equal-messages : well_formed base (sys Ordered (a ∷ a ∷ []) (two [] fresh)) ≡ true
  pub count-0 : well_formed base (alone (copies 0) (in_state 0)) ≡ false
  pub last-on-kind-1 : well_formed base (alone (net UnorderedDuplicating [] (Some a)) (in_state 0)) ≡ true
  pub last-on-kind-0 : well_formed base (alone (net Ordered [] (Some a)) (in_state 0)) ≡ false
  pub next-0 : well_formed base (sys Ordered [] (two [] (next_is 0 []))) ≡ false
  pub pending-at-next : well_formed base (sys Ordered [] (two [] (next_is 1 (pending 1 1 7 ∷ [])))) ≡ false
  pub pending-twice : well_formed base (sys Ordered [] (two [] (next_is 2 (pending 1 1 7 ∷ pending 1 1 7 ∷ [])))) ≡ false
  pub crashed-with-timer : well_formed base (alone (net Ordered [] None) (with_mark true (network ∷ []) (in_state 0))) ≡ false
  pub stored-next-0 : well_formed base (alone (net Ordered [] None) (with_storage (next_is 0 []) (in_state 0))) ≡ false
  pub taken-from-none : well_formed base (alone (net Ordered [] None) (with_storage (last_taken_is 0) (in_state 0))) ≡ false
  pub set-timer-31 : set_timer 31 [] ≡ 31 ∷ []
  pub set-timer-32 : set_timer 32 [] ≡ []
  -- decimals, and the line of a script that cannot be read
  pub nine : decimal 9 ≡ 57 ∷ []
  pub ten : decimal 10 ≡ 49 ∷ 48 ∷ []
  pub many : decimal 65307 ≡ 54 ∷ 53 ∷ 51 ∷ 48 ∷ 55 ∷ []
  pub bad-0 : replay base versions [] ≡ 98 ∷ 97 ∷ 100 ∷ 32 ∷ 48 ∷ 10 ∷ []

pub limits : Limits
unfolding opened waits replayed replay
limits = record {
  entry-128 = refl;
  entry-129 = refl;
  copy-65535 = refl;
  copy-65536 = refl;
  pending-32 = refl;
  pending-33 = refl;
  last-number = refl;
  no_number = refl;
  no-number-first = refl;
  set-30 = refl;
  set-31 = refl;
  cancel-30 = refl;
  cancel-31 = refl;
  state-15 = refl;
  state-16 = refl;
  next-16 = refl;
  event-4 = refl;
  command-4 = refl;
  command-5 = refl;
  rule-16 = refl;
  rule-17 = refl;
  low-is-high = refl;
  low-above-high = refl;
  start-in-1 = refl;
  start-untouched = refl;
  untouched-moves = refl;
  source-of-message = refl;
  source-of-timeout = refl;
  source-and-destination = refl;
  echo-and-payload = refl;
  echo-and-value = refl;
  echo-payload = refl;
  echo-value = refl;
  own_value = refl;
  unused-set = refl;
  unused-cancel = refl;
  unused-send = refl;
  unused-save = refl;
  unused-zero = refl;
  four-places = refl;
  actor-1 = refl;
  actor-0 = refl;
  actor-8 = refl;
  actor-9 = refl;
  kind_2 = refl;
  kind_3 = refl;
  source-0 = refl;
  source-1 = refl;
  holds-128 = refl;
  holds-129 = refl;
  counts-65535 = refl;
  counts-65536 = refl;
  waits-32 = refl;
  waits-33 = refl;
  in-15 = refl;
  in-16 = refl;
  timer-31 = refl;
  timer-32 = refl;
  actors-8 = refl;
  actors-9 = refl;
  out_of_order = refl;
  equal-entries = refl;
  equal-messages = refl;
  count-0 = refl;
  last-on-kind-1 = refl;
  last-on-kind-0 = refl;
  next-0 = refl;
  pending-at-next = refl;
  pending-twice = refl;
  crashed-with-timer = refl;
  stored-next-0 = refl;
  taken-from-none = refl;
  set-timer-31 = refl;
  set-timer-32 = refl;
  nine = refl;
  ten = refl;
  many = refl;
  bad-0 = refl;
}
