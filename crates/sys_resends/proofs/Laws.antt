-- Resends, on the way.
-- Assumes nothing.
use Prim.Native.Nat.{ℕ, zero, suc, ◌+◌, ◌-◌, ◌≤◌, ◌<◌}
use native.Mathlib.Omega.{arith}
use native.Mathlib.Numerals.{add-one}
use mathlib.Core.Path.{◌≡◌, refl, sym, ap, ◌∙◌}
use mathlib.Core.Bool.{true, false}
use mathlib.Core.List.{List, [], ◌∷◌, map}
use lib.ListN.{length, take, drop, get_or, length-map}
use lib.Seq.{get_or-take, length-take-le}
use Rattle.types.specs.Capacities.{most_copies}
use Rattle.types.specs.declared.Id.{Id}
use Rattle.types.specs.declared.Kind.{Kind}
use Rattle.types.specs.declared.Pending.{Pending}
use Rattle.answers.specs.Answers.{Done}
use Rattle.std.specs.Prelude.{Option, None}
use Rattle.types.specs.declared.Envelope.{Envelope}
use Rattle.types.specs.declared.Message.TheVariants.{Deliver}
use Rattle.rules.specs.Outcome.{Room}
use Rattle.rules.specs.Network.{send}
use Rattle.rules.specs.Link.{Command, Send, resent}
use Rattle.rules.specs.System.{Actor, with_net, run_commands}
use Rattle.sys_seat.specs.Seat.{Around}
use Rattle.net_rows.specs.declared.Sent.{Sent}
use Rattle.net_rows.specs.Views.{net_of, room_of, NetReady, Changed}
use Rattle.net_rows.proofs.Ready.{send-ready}
use Rattle.link_rows.specs.Rows.{pending_in}
use Rattle.answers.specs.Answers.{is_done}
use Rattle.sys_emits.specs.Views.{sys_in, Ran}
use Rattle.sys_seat.proofs.Rooms.{sent}
use Rattle.sys_reacts.proofs.Laws.{sent-take}
use Rattle.sys_emits.proofs.Laws.{take-first, not-both, sent-full, sent-on, sent-stops}

stepped : {A B : Type 0} (f : A → B) (l : List A) (i : ℕ) (d : A) → i < length l → drop i (map f l) ≡ f (get_or l i d) ∷ drop (suc i) (map f l)
stepped f [] i d h = absurd (omega arith)
stepped f (x ∷ l) zero d h = refl
stepped f (x ∷ l) (suc i) d h = stepped f l i d (omega arith)

ended_at : {A B : Type 0} (f : A → B) (l : List A) → drop (length l) (map f l) ≡ []
ended_at f [] = refl
ended_at f (x ∷ l) = ended_at f l

module _ (p : List (List ℕ)) (n : ℕ) (fit : n ≤ length p) where
  pub next_one : (i : ℕ) → i < n → drop i (map pending_in (take n p)) ≡ pending_in (get_or p i []) ∷ drop (i + 1) (map pending_in (take n p))
  next_one i h =
      let z = length-take-le n p fit in
      rw (add-one i) (stepped pending_in (take n p) i [] (omega arith)
      ∙ ap (λ (q : List ℕ). pending_in q ∷ drop (suc i) (map pending_in (take n p))) (get_or-take n p i [] h))

  pub no_more : (i : ℕ) → i ≡ n → drop i (map pending_in (take n p)) ≡ []
  no_more i e = ap (λ (k : ℕ). drop k (map pending_in (take n p))) (e ∙ sym (length-take-le n p fit)) ∙ ended_at pending_in (take n p)

module _ (kind : Kind) (me : Id) (cmds : List Command) (cs₀ : List (List ℕ)) (used w : ℕ) where
  pub record Along (cs : List (List ℕ)) (u l k : ℕ) (rest : List Pending) : Type 0 where
    pub room : length cs ≡ length cs₀
    pub ready : NetReady kind cs u l
    pub goal : (hall : Around me) (last : Option Envelope) (a : Actor)
        → run_commands (room_of cs₀) me cmds (sys_in me hall kind last cs₀ used w a)
        ≡ run_commands (room_of cs₀) me (take k (resent rest)) (sys_in me hall kind last cs u w a)

  module _ (cs : List (List ℕ)) (u l k : ℕ) (rest : List Pending) (on : Along cs u l k rest) where
    pub along-end : take k (resent rest) ≡ []
        → Ran kind me cmds cs₀ used w (record { answer = Done; used = u; len = l; timers = w; next = 0; left = k }) cs
    unfolding run_commands
    along-end e = record {
      room = on.room;
      full = λ h. absurd (not-both (is_done Done) refl h);
      ready = λ h. on.ready;
      runs = λ h hall last a. on.goal hall last a ∙ rw e;
      stops = λ h. absurd (not-both (is_done Done) refl h);
    }

    module _ (some : 0 < k) (q : Pending) (more : List Pending) (split : rest ≡ q ∷ more) (s : Sent) (cs' : List (List ℕ))
        (ch : (last : Option Envelope)
        → Changed cs u l (send (room_of cs) (record { src = me; dst = q.dst; msg = Deliver q.number q.payload }) (net_of kind last cs u)) s cs') where
      rooms : room_of cs₀ ≡ room_of cs
      rooms = λ j. record { entries = sym on.room j; copies = most_copies }

      abbrev first : Command
      first = Send q.dst (Deliver q.number q.payload)

      splits : take k (resent rest) ≡ first ∷ take (k - 1) (resent more)
      unfolding resent
      splits = ap (λ (r : List Pending). take k (resent r)) split ∙ take-first k first (resent more) some

      here : (hall : Around me) (last : Option Envelope) (a : Actor)
          → run_commands (room_of cs₀) me cmds (sys_in me hall kind last cs₀ used w a)
          ≡ run_commands (room_of cs) me (first ∷ take (k - 1) (resent more)) (sys_in me hall kind last cs u w a)
      here hall last a =
          on.goal hall last a ∙ ap (λ (r : List Command). run_commands (room_of cs₀) me r (sys_in me hall kind last cs u w a)) splits
          ∙ ap (λ (c : Room). run_commands c me (first ∷ take (k - 1) (resent more)) (sys_in me hall kind last cs u w a)) rooms

      pub along-stop : is_done s.answer ≡ false
          → Ran kind me cmds cs₀ used w (record { answer = s.answer; used = u; len = l; timers = w; next = 0; left = k }) cs'
      unfolding run_commands with_net
      along-stop f = record {
        room = (ch None).room ∙ on.room;
        full = sent-full kind None cs u l _ s cs' (ch None);
        ready = λ h. absurd (not-both (is_done s.answer) h f);
        runs = λ h. absurd (not-both (is_done s.answer) h f);
        stops = λ h hall last a. here hall last a ∙ sent-stops kind last cs u l _ s cs' (ch last) _ h;
      }

      pub along-step : is_done s.answer ≡ true → Along cs' s.used s.len (k - 1) more
      unfolding run_commands with_net
      along-step t = record {
        room = (ch None).room ∙ on.room;
        ready = send-ready kind None cs u l on.ready s cs' _ (ch None);
        goal = λ hall last a.
            here hall last a ∙ sent-on kind last cs u l _ s cs' (ch last) _ t
            ∙ ap (λ (c : Room). run_commands c me (take (k - 1) (resent more)) (sys_in me hall kind last cs' s.used w a)) (sym rooms);
      }

pub nothing-more : (k : ℕ) (rest : List Pending) → rest ≡ [] → take k (resent rest) ≡ []
unfolding resent
nothing-more zero rest e = refl
nothing-more (suc k) rest e = rw e

pub none_left : (k : ℕ) (rest : List Pending) → k ≡ 0 → take k (resent rest) ≡ []
none_left k rest e = rw e

-- ---- how many are sent
resent-sends : (ps : List Pending) → sent (resent ps) ≡ length ps
unfolding resent sent
resent-sends [] = refl
resent-sends (q ∷ ps) = ap suc (resent-sends ps)

pub few-resent : (p : List (List ℕ)) (n limit : ℕ) → n ≤ length p → sent (take limit (resent (map pending_in (take n p)))) ≤ n
few-resent p n limit fit =
    let a = sent-take limit (resent (map pending_in (take n p))) in
    let b = resent-sends (map pending_in (take n p)) in
    let c = length-map (take n p) pending_in in
    let d = length-take-le n p fit in
    omega arith
