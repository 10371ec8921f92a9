-- One command of a run, on cells and a word of timers.
-- Assumes nothing.
use Prim.Native.Nat.{ℕ, zero, suc, ◌+◌, ◌-◌, ◌<◌}
use native.Mathlib.Omega.{arith}
use native.Mathlib.Numerals.{add-one, unary_clauses}
use mathlib.Core.Path.{◌≡◌, refl, sym, ap, ◌∙◌}
use mathlib.Core.Bool.{Bool, true, false}
use mathlib.Core.List.{List, ◌∷◌}
use lib.ListN.{take}
use Rattle.types.specs.declared.Id.{Id}
use Rattle.types.specs.declared.Payload.{Payload}
use Rattle.types.specs.declared.Envelope.{Envelope}
use Rattle.types.specs.declared.Kind.{Kind}
use Rattle.answers.specs.Answers.{Done, NetworkFull}
use Rattle.std.specs.Prelude.{Option, None}
use Rattle.types.specs.declared.Message.TheVariants.{Deliver}
use Rattle.types.specs.declared.InnerCommand.{InnerCommand}
use Rattle.types.specs.declared.InnerCommand.TheVariants as inner
use Rattle.answers.specs.Answers.{answer_of}
use Rattle.rules.specs.Outcome.{Outcome, done, refused, bind, guard}
use Rattle.rules.specs.Timers.{set_timer, cancel_timer}
use Rattle.rules.specs.Network.{Net, send, sending, fits}
use Rattle.rules.specs.Link.{Command, Set, Cancel}
use Rattle.rules.specs.System.{Actor, Sys, with_timers, with_net, run_commands}
use Rattle.sys_seat.specs.Seat.{Around, holding}
use Rattle.sys_seat.proofs.Seats.{run-set, run-cancel}
use Rattle.link_timers.specs.Views.{listed}
use Rattle.net_rows.specs.declared.Sent.{Sent}
use Rattle.net_rows.proofs.Ready.{send-ready}
use Rattle.net_rows.specs.Views.{net_of, room_of, NetReady, Changed}
use Rattle.link_direct.specs.Direct.{asked, sends}
use Rattle.answers.specs.Answers.{is_done}
use Rattle.sys_emits.specs.Views.{sys_in, Went}

pub take-first : {A : Type 0} (n : ℕ) (x : A) (l : List A) → 0 < n → take n (x ∷ l) ≡ x ∷ take (n - 1) l
take-first zero x l h = absurd (omega arith)
take-first (suc n) x l h = simp unary_clauses

pub not-both : (b : Bool) → b ≡ true → b ≡ false → ⊥
not-both b p q = let z : ◌≡◌ {A = ℕ} 0 1 = cc in omega arith

-- ---- one send, in cells
module _ (kind : Kind) (last : Option Envelope) (cs : List (List ℕ)) (used n : ℕ) (e : Envelope) (s : Sent) (cs' : List (List ℕ))
    (ch : Changed cs used n (send (room_of cs) e (net_of kind last cs used)) s cs') where
  abbrev m : Net
  m = net_of kind last cs used

  pub sent-full : is_done s.answer ≡ false → s.answer ≡ NetworkFull
  unfolding send guard bind answer_of sending
  sent-full h = go (fits (room_of cs) (sending e m)) ch
    where
      go : (b : Bool) → Changed cs used n (guard b 8 (done (sending e m))) s cs' → s.answer ≡ NetworkFull
      go true c = absurd (not-both (is_done s.answer) (ap is_done c.left.0) h)
      go false c = c.left.0

  pub sent-on : (k : Net → Outcome Sys) → is_done s.answer ≡ true → bind (send (room_of cs) e m) k ≡ k (net_of kind last cs' s.used)
  unfolding send guard bind answer_of sending
  sent-on k h = go (fits (room_of cs) (sending e m)) ch
    where
      go : (b : Bool) → Changed cs used n (guard b 8 (done (sending e m))) s cs' → bind (guard b 8 (done (sending e m))) k
          ≡ k (net_of kind last cs' s.used)
      go true c = let z = sym c.left.1.entries in ap k (λ j. record { kind = kind; entries = z j; last = last })
      go false c = absurd (not-both (is_done s.answer) h (ap is_done c.left.0))

  pub sent-stops : (k : Net → Outcome Sys) → is_done s.answer ≡ false → bind (send (room_of cs) e m) k ≡ refused 8
  unfolding send guard bind answer_of sending
  sent-stops k h = go (fits (room_of cs) (sending e m)) ch
    where
      go : (b : Bool) → Changed cs used n (guard b 8 (done (sending e m))) s cs' → bind (guard b 8 (done (sending e m))) k ≡ refused 8
      go true c = absurd (not-both (is_done s.answer) (ap is_done c.left.0) h)
      go false c = refl

-- ---- inner commands
module _ (kind : Kind) (me : Id) (cs : List (List ℕ)) (used w next left : ℕ) (some : 0 < left) where
  pub set_on : (t w' : ℕ) → listed w' ≡ set_timer t (listed w) → (hall : Around me) (last : Option Envelope) (a : Actor) (os : List InnerCommand)
      → run_commands (room_of cs) me (take left (asked next (inner.SetTimer t ∷ os))) (sys_in me hall kind last cs used w a)
      ≡ run_commands (room_of cs) me (take (left - 1) (asked next os)) (sys_in me hall kind last cs used w' a)
  unfolding asked with_timers
  set_on t w' e hall last a os =
      ap (λ (l : List Command). run_commands (room_of cs) me l (sys_in me hall kind last cs used w a)) (take-first left (Set t) (asked next os) some)
      ∙ run-set me hall (net_of kind last cs used) (with_timers (listed w) a) (room_of cs) (take (left - 1) (asked next os)) t
      ∙ ap (λ (ts : List ℕ). run_commands (room_of cs) me (take (left - 1) (asked next os)) (holding me hall (net_of kind last cs used) (with_timers ts a)))
      (sym e)

  pub cancel-on : (t w' : ℕ) → listed w' ≡ cancel_timer t (listed w) → (hall : Around me) (last : Option Envelope) (a : Actor) (os : List InnerCommand)
      → run_commands (room_of cs) me (take left (asked next (inner.CancelTimer t ∷ os))) (sys_in me hall kind last cs used w a)
      ≡ run_commands (room_of cs) me (take (left - 1) (asked next os)) (sys_in me hall kind last cs used w' a)
  unfolding asked with_timers
  cancel-on t w' e hall last a os =
      ap (λ (l : List Command). run_commands (room_of cs) me l (sys_in me hall kind last cs used w a)) (take-first left (Cancel t) (asked next os) some)
      ∙ run-cancel me hall (net_of kind last cs used) (with_timers (listed w) a) (room_of cs) (take (left - 1) (asked next os)) t
      ∙ ap (λ (ts : List ℕ). run_commands (room_of cs) me (take (left - 1) (asked next os)) (holding me hall (net_of kind last cs used) (with_timers ts a)))
      (sym e)

  pub save-on : (v : ℕ) (hall : Around me) (last : Option Envelope) (a : Actor) (os : List InnerCommand)
      → run_commands (room_of cs) me (take left (asked next (inner.Save v ∷ os))) (sys_in me hall kind last cs used w a)
      ≡ run_commands (room_of cs) me (take left (asked next os)) (sys_in me hall kind last cs used w a)
  unfolding asked
  save-on v hall last a os = refl

  module _ (d : Id) (p : Payload) (n : ℕ) (s : Sent) (cs' : List (List ℕ))
      (ch : (last : Option Envelope) → Changed cs used n (send (room_of cs) (record { src = me; dst = d; msg = Deliver (record { 0 = next }) p })
      (net_of kind last cs used)) s cs') where
    pub send-on : is_done s.answer ≡ true → (hall : Around me) (last : Option Envelope) (a : Actor) (os : List InnerCommand)
        → run_commands (room_of cs) me (take left (asked next (inner.Send d p ∷ os))) (sys_in me hall kind last cs used w a)
        ≡ run_commands (room_of cs) me (take (left - 1) (asked (next + 1) os)) (sys_in me hall kind last cs' s.used w a)
    unfolding run_commands asked with_net
    send-on h hall last a os = rw (take-first left _ (asked (suc next) os) some, add-one next) (sent-on kind last cs used n _ s cs' (ch last) _ h)

    pub send-stops : is_done s.answer ≡ false → (hall : Around me) (last : Option Envelope) (a : Actor) (os : List InnerCommand)
        → run_commands (room_of cs) me (take left (asked next (inner.Send d p ∷ os))) (sys_in me hall kind last cs used w a) ≡ refused 8
    unfolding run_commands asked with_net
    send-stops h hall last a os = rw (take-first left _ (asked (suc next) os) some) (sent-stops kind last cs used n _ s cs' (ch last) _ h)

-- ---- one inner command, as the code does it
module _ (kind : Kind) (me : Id) (x : InnerCommand) (cs : List (List ℕ)) (used n w next left : ℕ) (ready : NetReady kind cs used n) (some : 0 < left) where
  pub went-set : (t : ℕ) → x ≡ inner.SetTimer t → (w' : ℕ) → listed w' ≡ set_timer t (listed w)
      → Went kind me x cs used w next left (record { answer = Done; used = used; len = n; timers = w'; next = next; left = left - 1 }) cs
  unfolding sends
  went-set t p w' e = rw p (record {
    room = refl;
    full = λ h. absurd (not-both (is_done Done) refl h);
    ready = λ h. ready;
    number = λ h. omega arith;
    onward = λ h. set_on kind me cs used w next left some t w' e;
    stops = λ h. absurd (not-both (is_done Done) refl h);
  })

  pub went-cancel : (t : ℕ) → x ≡ inner.CancelTimer t → (w' : ℕ) → listed w' ≡ cancel_timer t (listed w)
      → Went kind me x cs used w next left (record { answer = Done; used = used; len = n; timers = w'; next = next; left = left - 1 }) cs
  unfolding sends
  went-cancel t p w' e = rw p (record {
    room = refl;
    full = λ h. absurd (not-both (is_done Done) refl h);
    ready = λ h. ready;
    number = λ h. omega arith;
    onward = λ h. cancel-on kind me cs used w next left some t w' e;
    stops = λ h. absurd (not-both (is_done Done) refl h);
  })

  pub went-save : (v : ℕ) → x ≡ inner.Save v → Went kind me x cs used w next left
      (record { answer = Done; used = used; len = n; timers = w; next = next; left = left }) cs
  unfolding sends
  went-save v p = rw p (record {
    room = refl;
    full = λ h. absurd (not-both (is_done Done) refl h);
    ready = λ h. ready;
    number = λ h. omega arith;
    onward = λ h. save-on kind me cs used w next left some v;
    stops = λ h. absurd (not-both (is_done Done) refl h);
  })

  pub went-send : (d : Id) (p : Payload) → x ≡ inner.Send d p → (s : Sent) (cs' : List (List ℕ))
      → ((last : Option Envelope) → Changed cs used n (send (room_of cs) (record { src = me; dst = d; msg = Deliver (record { 0 = next }) p })
      (net_of kind last cs used)) s cs')
      → Went kind me x cs used w next left (record { answer = s.answer; used = s.used; len = s.len; timers = w; next = next + 1; left = left - 1 }) cs'
  unfolding sends
  went-send d p q s cs' ch = rw q (record {
    room = (ch None).room;
    full = sent-full kind None cs used n _ s cs' (ch None);
    ready = λ h. send-ready kind None cs used n ready s cs' _ (ch None);
    number = λ h. omega arith;
    onward = send-on kind me cs used w next left some d p n s cs' ch;
    stops = send-stops kind me cs used w next left some d p n s cs' ch;
  })
