-- How a Timeout ends on the rows: refused, ignored, the timer gone, a rule's commands, or every pending message sent again.
-- Assumes nothing.
use Prim.Native.Nat.{ℕ, suc, ◌+◌, ◌≤◌, ◌<◌}
use native.Mathlib.Omega.{arith}
use mathlib.Core.Path.{◌≡◌, refl, sym, ap, ◌∙◌, subst}
use mathlib.Core.Bool.{true, false}
use mathlib.Core.List.{List, [], ◌∷◌, map}
use lib.ListN.{length, take, get_or, set, length-set}
use lib.Seq.{get_or-set_same, get_or-set_other, take_all}
use lib.Dec.{leb, eqb}
use borrow.Author.Tests.{le-leb, lt-leb, ne_eqb}
use Rattle.types.specs.Capacities.{network, most_pending}
use Rattle.types.specs.declared.Id.{Id}
use Rattle.types.specs.declared.Kind.{Kind}
use Rattle.types.specs.declared.Rule.{Rule}
use Rattle.types.specs.declared.Pending.{Pending}
use Rattle.std.specs.Prelude.{Option}
use Rattle.types.specs.declared.Message.TheVariants.{Deliver}
use Rattle.types.specs.declared.InnerCommand.{InnerCommand}
use Rattle.types.specs.declared.Action.TheVariants.{Timeout}
use Rattle.answers.specs.Answers.{Done, Ignored, OutOfRange, NotSet}
use Rattle.answers.specs.Answers.{is_done}
use Rattle.rules.specs.Outcome.{Outcome, done, refused, bind, Room}
use Rattle.rules.specs.Inner.{reply, ignored, nobody}
use Rattle.rules.specs.Timers.{is_set, cancel_timer}
use Rattle.rules.specs.Network.{Net, send}
use Rattle.rules.specs.Link.{Command, resent}
use Rattle.rules.specs.System.{Actor, Sys, systems, with_net, with_timers, run_commands, act}
use Rattle.rules.proofs.Timers.{cancel-timers}
use Rattle.link_timers.specs.declared.Timers.{Timers}
use Rattle.link_timers.specs.Views.{listed, cancel_of}
use Rattle.link_timers.proofs.Listed.{listed-timers, listed-cancel, word_small}
use Rattle.net_rows.specs.declared.Sent.{Sent}
use Rattle.net_rows.specs.Views.{net_of, room_of}
use Rattle.link_rows.specs.Rows.{pending_in, durable_in}
use Rattle.sys_seat.specs.Seat.{Around, holding}
use Rattle.sys_emits.specs.declared.Emitted.{Emitted}
use Rattle.sys_emits.specs.Views.{sys_in}
use Rattle.sys_emits.proofs.Laws.{not-both}
use Rattle.sys_reacts.specs.declared.First.TheVariants as first
use Rattle.sys_reacts.specs.Views.{Safe}
use Rattle.sys_rows.specs.Rows.{actor_of, RowsLaid, Settled}
use Rattle.sys_rows.proofs.Laws.{state-small, aside, aside-head, tail-marks, as_settled}
use Rattle.sys_moves.specs.Views.{Rows, caps_of, actor_at, sys_at, reacting, Fine, Acted, Stepped, last_then}
use Rattle.sys_moves.proofs.Laws.{places-are}
use Rattle.sys_moves.proofs.Ends.{ended_by, ended-refused}
use Rattle.sys_timeout.proofs.Timed.{far-is, unset-is, timed-is, idle-is, quiet_is, resends-are}
use Rattle.types.specs.declared.Envelope.{Envelope}

-- ---- the timers without one of them, as a word
pub cut_small : (x : Timers) (t : ℕ) → (cancel_of x t).timers.0 < 4294967296
cut_small x t = word_small (cancel_timer t (listed x.0)) (cancel-timers t (listed x.0) (listed-timers x.0))

-- ---- other timers in a row, and nothing else
put-timers : (w : List ℕ) (p : List (List ℕ)) (t : ℕ) → RowsLaid w p → t < 4294967296 → Settled (durable_in w p) t (get_or w 7 0) w (set w 6 t) p
put-timers w p t laid h =
    let room = laid.room in
    let same : (i : ℕ) → (i ≡ 6 → ⊥) → get_or (set w 6 t) i 0 ≡ get_or w i 0 = λ i n. get_or-set_other w 6 i t 0 n in
    let e6 : get_or (set w 6 t) 6 0 ≡ t = get_or-set_same w 6 t 0 (omega arith) in
    let e7 = same 7 (λ z. omega arith) in
    let y7 = state-small w p laid in
    record {
      durable = aside w 6 t (omega arith) (omega arith) p;
      crashed = same 5 (λ z. omega arith);
      timers = e6;
      state = e7;
      laid = record {
        room = length-set w 6 t ∙ room;
        places = laid.places;
        pending = let z = same 1 (λ z. omega arith) in let y = laid.pending in omega arith;
        head = aside-head w 6 t (omega arith) (omega arith) p laid.head;
        tail = tail-marks w (set w 6 t) laid.tail (same 4 (λ z. omega arith)) (omega arith) (omega arith) (λ i. same (8 + i) (λ z. omega arith));
      };
    }

-- ---- the ends
module _ (me : Id) (count : ℕ) (rs : List Rule) (kind : Kind) (used n : ℕ) (x : Rows) (fine : Fine kind used n x) (t : ℕ) where
  pub far : network < t → Stepped count (Timeout me t) me rs kind used n x (record { answer = OutOfRange; used = used; len = n }) x
  far h = ended-refused me count rs _ _ kind used n x fine OutOfRange refl (λ hall size last. far-is me kind x used rs hall last t (lt-leb t network h))

  module _ (near : t ≤ network) where
    pub unset : is_set t (listed (get_or x.live 6 0)) ≡ false
        → Stepped count (Timeout me t) me rs kind used n x (record { answer = NotSet; used = used; len = n }) x
    unset e = ended-refused me count rs _ _ kind used n x fine NotSet refl (λ hall size last. unset-is me kind x used rs hall last t (le-leb t network near) e)

  -- A user's timer that is set.
  module _ (users : t < network) (is_set : is_set t (listed (get_or x.live 6 0)) ≡ true) (cut : Timers)
      (e : cut ≡ (cancel_of (record { 0 = get_or x.live 6 0 }) t).timers) where
    near : leb t network ≡ true
    near = le-leb t network (omega arith)

    not-network : eqb t network ≡ false
    not-network = ne_eqb t network (λ z. omega arith)

    gone : listed cut.0 ≡ cancel_timer t (listed (get_or x.live 6 0))
    gone = ap (λ (y : Timers). listed y.0) e ∙ listed-cancel (record { 0 = get_or x.live 6 0 }) t

    small : cut.0 < 4294967296
    small = let z = cut_small (record { 0 = get_or x.live 6 0 }) t in rw e z

    pub idle : ignored (reply rs 3 (get_or x.live 7 0) nobody t) ≡ true
        → Stepped count (Timeout me t) me rs kind used n x (record { answer = Done; used = used; len = n })
        (record { cells = x.cells; live = set x.live 6 cut.0; pend = x.pend; kept = x.kept; stored = x.stored })
    unfolding last_then
    idle i =
        let w = x.live in
        let put = put-timers w x.pend cut.0 fine.live small in
        record {
          fine = record { net = fine.net; room = fine.room; live = put.laid; kept = fine.kept };
          runs = λ a hall size last.
              idle-is me kind x used rs hall last t near is_set not-network cut.0 gone i
              ∙ ap (λ (b : Actor). done (holding me hall (net_of kind last x.cells used) b))
              (sym (as_settled rs (durable_in w x.pend) cut.0 (get_or w 7 0) w (set w 6 cut.0) x.pend put x.kept x.stored));
          stops = λ a. absurd (not-both (is_done Done) refl a);
          same = λ a. absurd (not-both (is_done Done) refl a);
        }

    pub timed : (os : List InnerCommand) → ignored (reply rs 3 (get_or x.live 7 0) nobody t) ≡ false
        → (reply rs 3 (get_or x.live 7 0) nobody t).out ≡ os
        → (r : Sent) (x' : Rows) → Acted me (reacting me kind os cut.0 (get_or x.live 7 0) used x) (λ last. last) kind used n x r x'
        → Stepped count (Timeout me t) me rs kind used n x r x'
    unfolding last_then
    timed os i f r x' acted = ended_by me count rs _ _ kind used n x _ r x' acted
        (λ hall size last. timed-is me kind x used rs hall last t near is_set not-network cut.0 gone os i f)

-- ---- the Network timer
-- Messages that are sent again touch no actor.
resent-actors : (c : Room) (i : Id) (ps : List Pending) (s s' : Sys) → run_commands c i (resent ps) s ≡ done s' → s'.actors ≡ s.actors
unfolding run_commands resent bind with_net
resent-actors c i [] s s' e = let z : s' ≡ s = cc in ap (λ (y : Sys). y.actors) z
resent-actors c i (q ∷ ps) s s' e =
    go (send c (record { src = i; dst = q.dst; msg = Deliver q.number q.payload }) s.net) (λ m. resent-actors c i ps (with_net m s) s') e
  where
    go : (o : Outcome Net) → ((m : Net) → run_commands c i (resent ps) (with_net m s) ≡ done s' → s'.actors ≡ s.actors)
        → bind o (λ m. run_commands c i (resent ps) (with_net m s)) ≡ done s' → s'.actors ≡ s.actors
    go (done m) f h = f m h
    go (refused k) f h = let z : ◌≡◌ {A = ℕ} 0 1 = cc in absurd (omega arith)

resent-length : (ps : List Pending) → length (resent ps) ≡ length ps
unfolding resent
resent-length [] = refl
resent-length (q ∷ ps) = ap suc (resent-length ps)

first_of : {A : Type 0} (l : List A) → 0 < length l → (q : A) × (qs : List A) × (l ≡ q ∷ qs)
first_of [] h = absurd (omega arith)
first_of (q ∷ qs) h = (q, qs, refl)

module _ (me : Id) (count : ℕ) (rs : List Rule) (kind : Kind) (used n : ℕ) (x : Rows) (fine : Fine kind used n x)
    (is_set : is_set network (listed (get_or x.live 6 0)) ≡ true) where
  abbrev ps : List Pending
  ps = (durable_in x.live x.pend).pending

  none_left : get_or x.live 1 0 ≡ 0 → ps ≡ []
  unfolding durable_in
  none_left e = rw e

  -- Nothing is pending.
  pub quiet : get_or x.live 1 0 ≡ 0 → Stepped count (Timeout me network) me rs kind used n x (record { answer = Ignored; used = used; len = n }) x
  quiet e = ended-refused me count rs _ _ kind used n x fine Ignored refl (λ hall size last. quiet_is me kind x used rs hall last is_set (none_left e))

  module _ (some : 0 < get_or x.live 1 0) (r : Emitted) (cs' : List (List ℕ))
      (safe : Safe kind me first.Nothing (take most_pending (resent (map pending_in (take (get_or x.live 1 0) x.pend)))) x.cells used n
      (get_or x.live 6 0) r cs') where
    counted : length ps ≡ get_or x.live 1 0
    counted = let a = fine.live.places in let b = fine.live.pending in places-are x.live x.pend (omega arith)

    abbrev start : Around me → Option Envelope → Sys
    start hall last = sys_at me hall kind last used rs x

    -- All of them are sent.
    all-sent : take most_pending (resent (map pending_in (take (get_or x.live 1 0) x.pend))) ≡ resent ps
    unfolding durable_in
    all-sent = let a = fine.live.pending in let b = counted in let c = resent-length ps in take_all most_pending (resent ps) (omega arith)

    as-run : (hall : Around me) (last : Option Envelope) → systems (act (caps_of x.cells) (start hall last) (Timeout me network))
        ≡ run_commands (room_of x.cells) me (resent ps) (start hall last)
    as-run hall last = let z = counted in let f = first_of ps (omega arith) in resends-are me kind x used rs hall last is_set f.0 f.1 f.2

    -- In a system that holds the rows.
    ran : (hall : Around me) (last : Option Envelope) (o : Outcome Sys)
        → run_commands (room_of x.cells) me (take most_pending (resent (map pending_in (take (get_or x.live 1 0) x.pend))))
        (sys_in me hall kind last x.cells used (get_or x.live 6 0) (actor_at rs x)) ≡ o
        → run_commands (room_of x.cells) me (resent ps) (start hall last) ≡ o
    unfolding with_timers actor_of
    ran hall last o e = ap (λ (cmds : List Command). run_commands (room_of x.cells) me cmds (start hall last)) (sym all-sent) ∙ e

    pub again-sent : Stepped count (Timeout me network) me rs kind used n x (record { answer = r.answer; used = r.used; len = r.len })
        (record { cells = cs'; live = x.live; pend = x.pend; kept = x.kept; stored = x.stored })
    unfolding last_then bind
    again-sent = record {
      fine = record { net = safe.ready; room = safe.room ∙ fine.room; live = fine.live; kept = fine.kept };
      runs = λ t hall size last.
          let e = ran hall last _ (safe.runs t hall last (actor_at rs x)) in
          let kept = resent-actors (room_of x.cells) me ps (start hall last) _ e in
          as-run hall last ∙ e ∙ ap done (λ j. record { net = net_of kind last cs' r.used; actors = kept j });
      stops = λ f hall size last. as-run hall last ∙ ran hall last _ (safe.stops f hall last (actor_at rs x));
      same = λ f.
          let z = safe.kept f in
          (λ j. record { cells = z.0 j; live = x.live; pend = x.pend; kept = x.kept; stored = x.stored }, z.1, z.2);
    }

-- The timer is Network.
pub as-network : (me : Id) (count : ℕ) (rs : List Rule) (kind : Kind) (used n : ℕ) (x : Rows) (t : ℕ) (r : Sent) (x' : Rows) → t ≡ network
    → Stepped count (Timeout me network) me rs kind used n x r x' → Stepped count (Timeout me t) me rs kind used n x r x'
as-network me count rs kind used n x t r x' e s = subst (λ (u : ℕ). Stepped count (Timeout me u) me rs kind used n x r x') (sym e) s
