-- Refusals beforehand, a run with an Ack in front, and how many are sent.
-- Assumes nothing.
use Prim.Native.Nat.{ℕ, zero, suc, ◌+◌, ◌-◌, ◌≤◌, ◌<◌}
use native.Mathlib.Omega.{arith}
use native.Mathlib.Decide.{dec_lt}
use mathlib.Core.Path.{◌≡◌, refl, sym, ap, ◌∙◌}
use mathlib.Core.Bool.{Bool, true, false, ◌&&◌}
use mathlib.Core.List.{List, [], ◌∷◌, ◌++◌}
use lib.ListN.{length, take}
use lib.Dec.{leb}
use borrow.Author.Tests.{le-leb, lt-leb}
use Rattle.types.specs.Capacities.{most_copies}
use Rattle.lists.specs.Lists.{choose}
use Rattle.types.specs.declared.Id.{Id}
use Rattle.types.specs.declared.Number.{Number}
use Rattle.types.specs.declared.Kind.{Kind}
use Rattle.answers.specs.Answers.{Answer}
use Rattle.answers.specs.Answers.{Done, NumbersUsedUp, PendingFull}
use Rattle.std.specs.Prelude.{Option, None}
use Rattle.types.specs.declared.Envelope.{Envelope}
use Rattle.types.specs.declared.Message.TheVariants.{Ack}
use Rattle.types.specs.declared.InnerCommand.{InnerCommand}
use Rattle.answers.specs.Answers.{answer_of, answer_number}
use Rattle.rules.specs.Outcome.{refused, Room}
use Rattle.rules.specs.Network.{send}
use Rattle.rules.specs.Link.{Durable, Command, Set, Cancel, Send, Save, process}
use Rattle.rules.specs.System.{Actor, with_net, run_commands}
use Rattle.sys_seat.specs.Seat.{Around}
use Rattle.sys_seat.proofs.Rooms.{sent, sent-asked}
use Rattle.net_rows.specs.declared.Sent.{Sent}
use Rattle.net_rows.specs.Views.{net_of, room_of, NetReady, Changed}
use Rattle.net_rows.proofs.Ready.{send-ready}
use Rattle.link_direct.specs.Direct.{asked, sends}
use Rattle.link_direct.proofs.Laws.{no-numbers, no-places}
use Rattle.answers.specs.Answers.{is_done}
use Rattle.sys_emits.specs.declared.Emitted.{Emitted}
use Rattle.sys_emits.specs.Views.{sys_in, Ran}
use Rattle.sys_emits.proofs.Laws.{take-first, not-both, sent-full, sent-on, sent-stops}
use Rattle.sys_reacts.specs.declared.First.{First}
use Rattle.sys_reacts.specs.declared.First.TheVariants as first
use Rattle.sys_reacts.specs.Views.{limits_of, refusal_of, front_of}

-- ---- 6 and 7
module _ (next pending room k : ℕ) where
  pub both-fit : k ≤ 18446744073709551615 - next → k ≤ room - pending → Done ≡ answer_of (refusal_of next pending room k)
  unfolding refusal_of answer_of choose
  both-fit h g = rw (le-leb k (18446744073709551615 - next) h, le-leb k (room - pending) g)

  pub numbers-out : 18446744073709551615 - next < k → 18446744073709551615 - next ≤ room - pending → NumbersUsedUp
      ≡ answer_of (refusal_of next pending room k)
  unfolding refusal_of answer_of choose
  numbers-out h g = rw (lt-leb k (18446744073709551615 - next) h, le-leb (18446744073709551615 - next) (room - pending) g)

  pub places-out : room - pending < k → room - pending < 18446744073709551615 - next → PendingFull ≡ answer_of (refusal_of next pending room k)
  unfolding refusal_of answer_of choose
  places-out h g = go (leb k (18446744073709551615 - next))
    where
      go : (b : Bool) → PendingFull ≡ answer_of (choose (b && leb k (room - pending)) 0 (choose (leb (18446744073709551615 - next) (room - pending)) 6 7))
      go true = rw (lt-leb k (room - pending) h, lt-leb (18446744073709551615 - next) (room - pending) g)
      go false = rw (lt-leb (18446744073709551615 - next) (room - pending) g)

-- By the numbers and places that are left.
data Left (n m k : ℕ) : Type 0 where
  enough : k ≤ n → k ≤ m → Left n m k
  numbers : n < k → n ≤ m → Left n m k
  places : m < k → m < n → Left n m k

left-of : (n m k : ℕ) → Left n m k
left-of n m k = go (dec_lt n k) (dec_lt m k) (dec_lt m n)
  where
    go : Dec (n < k) → Dec (m < k) → Dec (m < n) → Left n m k
    go (yes p) q (yes r) = places (omega arith) (omega arith)
    go (yes p) q (no r) = numbers p (omega arith)
    go (no p) (yes q) r = places q (omega arith)
    go (no p) (no q) r = enough (omega arith) (omega arith)

module _ (i : Id) (d : Durable) (room : ℕ) (os : List InnerCommand) (a : Answer)
    (e : a ≡ answer_of (refusal_of d.next.0 (length d.pending) room (sends os)))
    (fits : d.next.0 ≤ 18446744073709551615) (most : length d.pending ≤ room) where
  -- Where the answer is Done, numbers and places are enough.
  pub goes_on : is_done a ≡ true → (d.next.0 + sends os ≤ 18446744073709551615) × (length d.pending + sends os ≤ room)
  goes_on h = go (left-of (18446744073709551615 - d.next.0) (room - length d.pending) (sends os))
    where
      go : Left (18446744073709551615 - d.next.0) (room - length d.pending) (sends os) → (d.next.0 + sends os ≤ 18446744073709551615)
          × (length d.pending + sends os ≤ room)
      go (enough p q) = (omega arith, omega arith)
      go (numbers p q) = absurd (not-both (is_done a) h (ap is_done (e ∙ sym (numbers-out d.next.0 (length d.pending) room (sends os) p q))))
      go (places p q) = absurd (not-both (is_done a) h (ap is_done (e ∙ sym (places-out d.next.0 (length d.pending) room (sends os) p q))))

  -- Where it is not, it is the one of the rules.
  pub refuses : is_done a ≡ false → process (limits_of room) i d os ≡ refused (answer_number a)
  refuses h = go (left-of (18446744073709551615 - d.next.0) (room - length d.pending) (sends os))
    where
      go : Left (18446744073709551615 - d.next.0) (room - length d.pending) (sends os) → process (limits_of room) i d os ≡ refused (answer_number a)
      go (enough p q) = absurd (not-both (is_done a) (ap is_done (e ∙ sym (both-fit d.next.0 (length d.pending) room (sends os) p q))) h)
      go (numbers p q) =
          let w : a ≡ NumbersUsedUp = e ∙ sym (numbers-out d.next.0 (length d.pending) room (sends os) p q) in
          no-numbers (limits_of room) i os d (omega arith) fits (omega arith) ∙ ap (λ (x : Answer). refused (answer_number x)) (sym w)
      go (places p q) =
          let w : a ≡ PendingFull = e ∙ sym (places-out d.next.0 (length d.pending) room (sends os) p q) in
          no-places (limits_of room) i os d (omega arith) most (omega arith) ∙ ap (λ (x : Answer). refused (answer_number x)) (sym w)

-- ---- an Ack in front
module _ (kind : Kind) (me source : Id) (v : Number) (cs : List (List ℕ)) (used n w next limit : ℕ) (ready : NetReady kind cs used n)
    (os : List InnerCommand) where
  abbrev ack : Command
  ack = Send source (Ack v)

  pub ran-none : limit ≡ 0 → Ran kind me (take limit (ack ∷ asked next os)) cs used w
      (record { answer = Done; used = used; len = n; timers = w; next = next; left = 0 }) cs
  unfolding run_commands
  ran-none e = rw e (record {
    room = refl;
    full = λ h. absurd (not-both (is_done Done) refl h);
    ready = λ h. ready;
    runs = λ h hall last a. refl;
    stops = λ h. absurd (not-both (is_done Done) refl h);
  })

  module _ (some : 0 < limit) (s : Sent) (cs' : List (List ℕ))
      (ch : (last : Option Envelope) → Changed cs used n (send (room_of cs) (record { src = me; dst = source; msg = Ack v })
      (net_of kind last cs used)) s cs') where
    cmds : take limit (ack ∷ asked next os) ≡ ack ∷ take (limit - 1) (asked next os)
    cmds = take-first limit ack (asked next os) some

    pub acked-ready : NetReady kind cs' s.used s.len
    acked-ready = send-ready kind None cs used n ready s cs' _ (ch None)

    pub ran-unacked : is_done s.answer ≡ false → Ran kind me (take limit (ack ∷ asked next os)) cs used w
        (record { answer = s.answer; used = used; len = n; timers = w; next = next; left = limit }) cs'
    unfolding run_commands with_net
    ran-unacked g = record {
      room = (ch None).room;
      full = sent-full kind None cs used n _ s cs' (ch None);
      ready = λ h. absurd (not-both (is_done s.answer) h g);
      runs = λ h. absurd (not-both (is_done s.answer) h g);
      stops =
          λ h hall last a. ap (λ (l : List Command). run_commands (room_of cs) me l (sys_in me hall kind last cs used w a)) cmds
          ∙ sent-stops kind last cs used n _ s cs' (ch last) _ h;
    }

    pub ran-acked : is_done s.answer ≡ true → (r : Emitted) (cs'' : List (List ℕ))
        → Ran kind me (take (limit - 1) (asked next os)) cs' s.used w r cs''
        → Ran kind me (take limit (ack ∷ asked next os)) cs used w r cs''
    unfolding run_commands with_net
    ran-acked g r cs'' ran =
        let rooms : room_of cs ≡ room_of cs' = λ j. record { entries = sym (ch None).room j; copies = most_copies } in
        let on : (hall : Around me) (last : Option Envelope) (a : Actor)
        → run_commands (room_of cs) me (take limit (ack ∷ asked next os)) (sys_in me hall kind last cs used w a)
        ≡ run_commands (room_of cs') me (take (limit - 1) (asked next os)) (sys_in me hall kind last cs' s.used w a) =
        λ hall last a. ap (λ (l : List Command). run_commands (room_of cs) me l (sys_in me hall kind last cs used w a)) cmds
        ∙ sent-on kind last cs used n _ s cs' (ch last) _ g
        ∙ ap (λ (c : Room). run_commands c me (take (limit - 1) (asked next os)) (sys_in me hall kind last cs' s.used w a)) rooms in
        record {
          room = ran.room ∙ (ch None).room;
          full = ran.full;
          ready = ran.ready;
          runs = λ h hall last a. on hall last a ∙ ran.runs h hall last a;
          stops = λ h hall last a. on hall last a ∙ ran.stops h hall last a;
        }

-- ---- how many are sent
sent-append : (cs ds : List Command) → sent (cs ++ ds) ≡ sent cs + sent ds
unfolding sent
sent-append [] ds = omega arith
sent-append (Set t ∷ cs) ds = sent-append cs ds
sent-append (Cancel t ∷ cs) ds = sent-append cs ds
sent-append (Save d ∷ cs) ds = sent-append cs ds
sent-append (Send r m ∷ cs) ds = let z = sent-append cs ds in omega arith

pub sent-take : (k : ℕ) (cs : List Command) → sent (take k cs) ≤ sent cs
unfolding sent
sent-take zero cs = omega arith
sent-take (suc k) [] = omega arith
sent-take (suc k) (Set t ∷ cs) = sent-take k cs
sent-take (suc k) (Cancel t ∷ cs) = sent-take k cs
sent-take (suc k) (Save d ∷ cs) = sent-take k cs
sent-take (suc k) (Send r m ∷ cs) = let z = sent-take k cs in omega arith

sent_front : (source : Id) (f : First) → sent (front_of source f) ≤ 1
unfolding sent front_of
sent_front source first.Nothing = omega arith
sent_front source (first.Message e v) = omega arith

pub few-sent : (source : Id) (f : First) (next limit k : ℕ) (os : List InnerCommand) → k ≡ sends os
    → sent (take limit (front_of source f ++ asked next os)) ≤ k + 1
few-sent source f next limit k os e =
    let a = sent-take limit (front_of source f ++ asked next os) in
    let b = sent-append (front_of source f) (asked next os) in
    let c = sent_front source f in
    let d = sent-asked next os in
    omega arith
