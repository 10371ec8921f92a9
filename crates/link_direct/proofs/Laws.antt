-- 6 and 7 are decided before anything is done, by the numbers and the places that are left and by how many messages are sent: each
-- message takes one of both.
-- Assumes nothing.
use Prim.Native.Nat.{ℕ, zero, suc, ◌+◌, ◌-◌, ◌≤◌, ◌<◌}
use native.Mathlib.Omega.{arith}
use native.Mathlib.Decide.{dec_lt}
use mathlib.Core.Path.{◌≡◌, refl}
use mathlib.Core.List.{List, [], ◌∷◌, ◌++◌}
use lib.ListN.{length, length-append}
use borrow.Author.Tests.{lt-ltb, le-ltb}
use Rattle.types.specs.declared.Id.{Id}
use Rattle.types.specs.declared.Payload.{Payload}
use Rattle.types.specs.declared.Message.TheVariants.{Deliver}
use Rattle.types.specs.declared.InnerCommand.{InnerCommand}
use Rattle.types.specs.declared.InnerCommand.TheVariants as inner
use Rattle.rules.specs.Outcome.{done, refused, bind, guard, Limits}
use Rattle.rules.specs.Link.{Durable, Command, Set, Cancel, Send, Event, Sent, Output, also, process, posting, with_inner, numbered}
use Rattle.link_direct.specs.Direct.{sends}

-- ---- how many are sent
pub sends-cons : (x : InnerCommand) (os : List InnerCommand) → sends (x ∷ os) ≡ sends (x ∷ []) + sends os
unfolding sends
sends-cons (inner.SetTimer t) os = omega arith
sends-cons (inner.CancelTimer t) os = omega arith
sends-cons (inner.Save v) os = omega arith
sends-cons (inner.Send r p) os = omega arith

pub sends-one : (x : InnerCommand) (r : Id) (p : Payload) → x ≡ inner.Send r p → sends (x ∷ []) ≡ 1
unfolding sends
sends-one x r p e = rw e

-- ---- what is left is enough, or not
pub record Goes (lim : Limits) (i : Id) (d : Durable) (os : List InnerCommand) : Type 0 where
  pub output : Output
  pub told : process lim i d os ≡ done output

one_more : (d : Durable) (r : Id) (p : Payload) → length (posting r p d).pending ≡ length d.pending + 1
unfolding posting
one_more d r p = length-append d.pending (numbered d r p ∷ [])

-- The output with one command more in front.
abbrev front : Command → List Event → Output → Output
front x v o = record { durable = o.durable; commands = x ∷ o.commands; events = v ++ o.events }

module _ (lim : Limits) (i : Id) where
  pub goes : (os : List InnerCommand) (d : Durable) → d.next.0 + sends os ≤ lim.numbers → length d.pending + sends os ≤ lim.pending
      → Goes lim i d os
  unfolding process sends bind guard also posting with_inner
  goes [] d h k = record { output = record { durable = d; commands = []; events = [] }; told = refl }
  goes (inner.SetTimer t ∷ os) d h k = let g = goes os d h k in record { output = front (Set t) [] g.output; told = rw g.told }
  goes (inner.CancelTimer t ∷ os) d h k = let g = goes os d h k in record { output = front (Cancel t) [] g.output; told = rw g.told }
  goes (inner.Save v ∷ os) d h k = let g = goes os (with_inner v d) h k in record { output = g.output; told = g.told }
  goes (inner.Send r p ∷ os) d h k =
      let w = one_more d r p in
      let g = goes os (posting r p d) (omega arith) (omega arith) in
      record {
        output = front (Send r (Deliver d.next p)) (Sent i (numbered d r p) ∷ []) g.output;
        told = rw (lt-ltb d.next.0 lim.numbers (omega arith), lt-ltb (length d.pending) lim.pending (omega arith), g.told);
      }

  -- After a more messages one of the two has run out, and another message is to be sent.
  stops : (os : List InnerCommand) (d : Durable) (a n : ℕ) → a < sends os → d.next.0 + a ≤ lim.numbers → length d.pending + a ≤ lim.pending
      → (lim.numbers ≤ d.next.0 + a → n ≡ 6) → (d.next.0 + a < lim.numbers → (lim.pending ≤ length d.pending + a) × (n ≡ 7))
      → process lim i d os ≡ refused n
  unfolding process sends bind guard posting with_inner
  stops [] d a n l h k six seven = absurd (omega arith)
  stops (inner.SetTimer t ∷ os) d a n l h k six seven = rw (stops os d a n l h k six seven)
  stops (inner.CancelTimer t ∷ os) d a n l h k six seven = rw (stops os d a n l h k six seven)
  stops (inner.Save v ∷ os) d a n l h k six seven = stops os (with_inner v d) a n l h k six seven
  stops (inner.Send r p ∷ os) d zero n l h k six seven = go (dec_lt d.next.0 lim.numbers)
    where
      go : Dec (d.next.0 < lim.numbers) → process lim i d (inner.Send r p ∷ os) ≡ refused n
      go (yes m) = let s = seven (omega arith) in
          rw (lt-ltb d.next.0 lim.numbers m, le-ltb (length d.pending) lim.pending (omega arith), s.1)
      go (no m) = rw (le-ltb d.next.0 lim.numbers (omega arith), six (omega arith))
  stops (inner.Send r p ∷ os) d (suc a) n l h k six seven =
      let w = one_more d r p in
      rw (
        lt-ltb d.next.0 lim.numbers (omega arith),
        lt-ltb (length d.pending) lim.pending (omega arith),
        stops os (posting r p d) a n (omega arith) (omega arith) (omega arith) (λ e. six (omega arith))
            (λ e. let s = seven (omega arith) in (omega arith, s.1)),
      )

  -- The first to run out decides, numbers before places.
  pub no-numbers : (os : List InnerCommand) (d : Durable) → lim.numbers < d.next.0 + sends os → d.next.0 ≤ lim.numbers
      → lim.numbers + length d.pending ≤ lim.pending + d.next.0 → process lim i d os ≡ refused 6
  no-numbers os d h j k = stops os d (lim.numbers - d.next.0) 6 (omega arith) (omega arith) (omega arith) (λ e. refl) (λ e. absurd (omega arith))

  pub no-places : (os : List InnerCommand) (d : Durable) → lim.pending < length d.pending + sends os → length d.pending ≤ lim.pending
      → lim.pending + d.next.0 < lim.numbers + length d.pending → process lim i d os ≡ refused 7
  no-places os d h j k =
      stops os d (lim.pending - length d.pending) 7 (omega arith) (omega arith) (omega arith) (λ e. absurd (omega arith)) (λ e. (omega arith, refl))
