-- Which rule takes a message, and how the step ends with it or without.
-- Assumes nothing.
use Prim.Native.Nat.{ℕ, ◌+◌, ◌≤◌, ◌<◌}
use native.Mathlib.Omega.{arith}
use mathlib.Core.Path.{◌≡◌, refl, sym, ap, ◌∙◌}
use mathlib.Core.Bool.{Bool, true, false, not, ◌||◌}
use mathlib.Core.List.{List, []}
use lib.ListN.{length, get_or}
use lib.Dec.{leb, ltb}
use borrow.Author.Tests.{le-leb, lt-leb, lt-ltb, le-ltb}
use Rattle.lists.specs.Lists.{choose}
use Rattle.types.specs.Capacities.{most_actors}
use Rattle.types.specs.declared.Id.{Id}
use Rattle.types.specs.declared.Number.{Number}
use Rattle.types.specs.declared.Payload.{Payload}
use Rattle.types.specs.declared.Kind.{Kind}
use Rattle.types.specs.declared.Rule.{Rule}
use Rattle.types.specs.declared.Envelope.{Envelope}
use Rattle.types.specs.declared.Message.{Message}
use Rattle.types.specs.declared.Message.TheVariants.{Deliver, Ack}
use Rattle.types.specs.declared.Action.TheVariants as action
use Rattle.std.specs.Prelude.{Option}
use Rattle.answers.specs.Answers.{Ignored, OutOfRange}
use Rattle.rules.specs.Outcome.{Outcome, guard}
use Rattle.rules.specs.Inner.{reply, ignored}
use Rattle.rules.specs.Link.{last_taken}
use Rattle.rules.specs.System.{Sys, systems, act}
use Rattle.net_rows.specs.declared.Sent.{Sent}
use Rattle.net_rows.specs.Views.{last_after, net_of}
use Rattle.link_tables.specs.Rows.{mark, orders, replied, TableLaid, rules_in, deciding_of}
use Rattle.link_tables.proofs.Replies.{place-counts, place-replies, place-idle}
use Rattle.link_rows.specs.Rows.{durable_in}
use Rattle.sys_seat.specs.Seat.{Around}
use Rattle.sys_seat.proofs.Actions.{seat-deliver}
use Rattle.sys_rows.specs.Rows.{actor_of}
use Rattle.sys_moves.specs.Views.{Rows, actor_at, sys_at, caps_of, acked_in, passed_by, taken_in, Fine, Acted, Ended, Stepped, last_then}
use Rattle.sys_moves.proofs.Ends.{ended_by, ended-refused}
use Rattle.sys_deliver.specs.Views.{handed_to, only_acked, taker_of}
use Rattle.sys_deliver.proofs.Heard.{last-is, ack-is, passed_is, taken_is}

-- ---- the rule
module _ (number last state : ℕ) (source : Id) (payload : ℕ) (t : List (List ℕ)) (rules : ℕ) where
  -- Not newer.
  pub taker-old : number ≤ last → rules ≡ taker_of number last state source payload t rules
  unfolding choose
  taker-old h = rw (le-leb number last h)

  pub taker-new : last < number → (at : ℕ) → at ≡ deciding_of 2 state source payload t rules → at ≡ taker_of number last state source payload t rules
  unfolding choose
  taker-new h at e = e ∙ rw (lt-leb number last h)

  module _ (laid : TableLaid t rules) (at : ℕ) (chosen : at ≡ taker_of number last state source payload t rules) where
    abbrev acked : Bool → Bool
    acked b = b || ignored (reply (rules_in t rules) 2 state source payload)

    by : (b : Bool) → leb number last ≡ b → at ≡ choose b rules (deciding_of 2 state source payload t rules)
    by b q = chosen ∙ rw q

    only-acked : rules ≤ at → only_acked number last (rules_in t rules) state source payload ≡ true
    unfolding choose
    only-acked h = go (leb number last) refl
      where
        go : (b : Bool) → leb number last ≡ b → acked b ≡ true
        go true q = refl
        go false q = place-idle 2 state source payload t rules at laid (by false q) h

    takes : at < rules → (only_acked number last (rules_in t rules) state source payload ≡ false)
        × (reply (rules_in t rules) 2 state source payload ≡ replied (get_or t at []) source payload)
    unfolding choose
    takes h = go (leb number last) refl
      where
        go : (b : Bool) → leb number last ≡ b → (acked b ≡ false)
            × (reply (rules_in t rules) 2 state source payload ≡ replied (get_or t at []) source payload)
        go true q = let z : at ≡ rules = by true q in absurd (omega arith)
        go false q =
            (place-counts 2 state source payload t rules at laid (by false q) h, place-replies 2 state source payload t rules at laid (by false q) h)

-- ---- the step
module _ (kind : Kind) (e : Envelope) (v : Number) (y : Payload) (used n : ℕ) (x : Rows) (fine : Fine kind used n x) (few : e.src.0 < most_actors)
    (t : List (List ℕ)) (rules : ℕ) (laid : TableLaid t rules) (at : ℕ)
    (chosen : at ≡ taker_of v.0 (get_or x.live (8 + e.src.0) 0) (get_or x.live 7 0) e.src y.0 t rules)
    (r : Sent) (x' : Rows) (count : ℕ) where
  abbrev rs : List Rule
  rs = rules_in t rules

  here : (b : Bool) → only_acked v.0 (get_or x.live (8 + e.src.0) 0) rs (get_or x.live 7 0) e.src y.0 ≡ b
      → only_acked v.0 (last_taken e.src (durable_in x.live x.pend)).0 rs (get_or x.live 7 0) e.src y.0 ≡ b
  here b p =
      ap (λ (k : ℕ). only_acked v.0 k rs (get_or x.live 7 0) e.src y.0) (last-is x.live x.pend fine.live e.src few) ∙ p

  pub heard-passed : rules ≤ at → Acted e.dst (passed_by kind e v used x) (last_after kind e) kind used n x r x'
      → Ended e.dst count rs (handed_to kind e (Deliver v y) used x rs) (last_after kind e) kind used n x r x'
  heard-passed h a = ended_by e.dst count rs (handed_to kind e (Deliver v y) used x rs) (last_after kind e) kind used n x _ r x' a
      (λ hall size last. passed_is kind e used x rs hall last v y (here true (only-acked v.0 _ _ e.src y.0 t rules laid at chosen h)))

  pub heard-taken : at < rules → (s : ℕ) → s ≡ choose (mark (get_or (get_or t at []) 3 0)) (get_or (get_or t at []) 4 0) (get_or x.live 7 0)
      → Acted e.dst (taken_in kind e v (orders (get_or t at []) e.src y.0) s used x) (last_after kind e) kind used n x r x'
      → Ended e.dst count rs (handed_to kind e (Deliver v y) used x rs) (last_after kind e) kind used n x r x'
  heard-taken h s q a =
      let z = takes v.0 _ _ e.src y.0 t rules laid at chosen h in
      ended_by e.dst count rs (handed_to kind e (Deliver v y) used x rs) (last_after kind e) kind used n x _ r x' a
      (λ hall size last. taken_is kind e used x rs hall last v y (replied (get_or t at []) e.src y.0) s (sym q) (here false z.0) z.1)

-- ---- the whole action
module _ (kind : Kind) (e : Envelope) (used n : ℕ) (x : Rows) (fine : Fine kind used n x) (rs : List Rule) (count : ℕ) where
  abbrev o : Around e.dst → Option Envelope → Outcome Sys
  o hall last = systems (act (caps_of x.cells) (sys_at e.dst hall kind last used rs x) (action.Deliver e))

  at-seat : (hall : Around e.dst) → length hall.sys.actors ≡ count → (last : Option Envelope)
      → o hall last ≡ guard (ltb e.src.0 count) 2 (guard (not (mark (get_or x.live 5 0))) 1 (handed_to kind e e.msg used x rs hall last))
  unfolding actor_of
  at-seat hall size last =
      seat-deliver (caps_of x.cells) e hall (net_of kind last x.cells used) (actor_at rs x)
      ∙ ap (λ (k : ℕ). guard (ltb e.src.0 k) 2 (guard (not (mark (get_or x.live 5 0))) 1 (handed_to kind e e.msg used x rs hall last))) size

  pub no_source : count ≤ e.src.0 → Stepped count (action.Deliver e) e.dst rs kind used n x (record { answer = OutOfRange; used = used; len = n }) x
  unfolding guard
  no_source h = ended-refused e.dst count rs o (last_then kind (action.Deliver e)) kind used n x fine OutOfRange refl
      (λ hall size last. at-seat hall size last ∙ rw (le-ltb e.src.0 count h))

  pub deaf : e.src.0 < count → mark (get_or x.live 5 0) ≡ true
      → Stepped count (action.Deliver e) e.dst rs kind used n x (record { answer = Ignored; used = used; len = n }) x
  unfolding guard
  deaf h c = ended-refused e.dst count rs o (last_then kind (action.Deliver e)) kind used n x fine Ignored refl
      (λ hall size last. at-seat hall size last ∙ rw (lt-ltb e.src.0 count h, c))

  module _ (h : e.src.0 < count) (c : mark (get_or x.live 5 0) ≡ false) (m : Message) (q : e.msg ≡ m) (r : Sent) (x' : Rows) where
    reaches : (hall : Around e.dst) → length hall.sys.actors ≡ count → (last : Option Envelope) → o hall last
        ≡ handed_to kind e m used x rs hall last
    unfolding guard
    reaches hall size last =
        at-seat hall size last
        ∙ ap (λ (b : Bool). guard b 2 (guard (not (mark (get_or x.live 5 0))) 1 (handed_to kind e e.msg used x rs hall last)))
        (lt-ltb e.src.0 count h)
        ∙ ap (λ (b : Bool). guard (not b) 1 (handed_to kind e e.msg used x rs hall last)) c
        ∙ ap (λ (k : Message). handed_to kind e k used x rs hall last) q

    pub delivered : Ended e.dst count rs (handed_to kind e m used x rs) (last_after kind e) kind used n x r x'
        → Stepped count (action.Deliver e) e.dst rs kind used n x r x'
    unfolding last_then
    delivered a = record {
      fine = a.fine;
      runs = λ t hall size last. reaches hall size last ∙ a.runs t hall size last;
      stops = λ f hall size last. reaches hall size last ∙ a.stops f hall size last;
      same = a.same;
    }

  pub acks : (h : e.src.0 < count) (c : mark (get_or x.live 5 0) ≡ false) (v : Number) (q : e.msg ≡ Ack v) (r : Sent) (x' : Rows)
      → Acted e.dst (acked_in kind e v used x) (last_after kind e) kind used n x r x' → Stepped count (action.Deliver e) e.dst rs kind used n x r x'
  acks h c v q r x' a = delivered h c (Ack v) q r x'
      (ended_by e.dst count rs (handed_to kind e (Ack v) used x rs) (last_after kind e) kind used n x _ r x' a
      (λ hall size last. ack-is kind e used x rs hall last v))
