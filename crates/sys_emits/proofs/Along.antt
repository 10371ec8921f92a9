-- A run of commands, on the way: what is to be run from the entry is what is to be run of the rest from here.
-- Assumes nothing.
use Prim.Native.Nat.{ℕ, zero, suc, ◌+◌, ◌≤◌}
use native.Mathlib.Omega.{arith}
use mathlib.Core.Path.{◌≡◌, refl, sym, ap, ◌∙◌}
use mathlib.Core.Bool.{true, false}
use mathlib.Core.List.{List, [], ◌∷◌}
use lib.ListN.{length, take}
use Rattle.link_direct.proofs.Laws.{sends-cons}
use Rattle.types.specs.Capacities.{most_copies}
use Rattle.types.specs.declared.Id.{Id}
use Rattle.types.specs.declared.Kind.{Kind}
use Rattle.answers.specs.Answers.{Done}
use Rattle.std.specs.Prelude.{Option}
use Rattle.types.specs.declared.InnerCommand.{InnerCommand}
use Rattle.rules.specs.Outcome.{Room}
use Rattle.rules.specs.Link.{Command}
use Rattle.rules.specs.System.{Actor, run_commands}
use Rattle.sys_seat.specs.Seat.{Around}
use Rattle.net_rows.specs.Views.{room_of, NetReady}
use Rattle.link_direct.specs.Direct.{asked, sends}
use Rattle.answers.specs.Answers.{is_done}
use Rattle.sys_emits.specs.declared.Emitted.{Emitted}
use Rattle.sys_emits.specs.Views.{sys_in, Ran, Went}
use Rattle.sys_emits.proofs.Laws.{not-both}
use Rattle.types.specs.declared.Envelope.{Envelope}

room-same : (cs cs' : List (List ℕ)) → length cs' ≡ length cs → room_of cs' ≡ room_of cs
room-same cs cs' e = λ j. record { entries = e j; copies = most_copies }

module _ (kind : Kind) (me : Id) (cmds : List Command) (cs₀ : List (List ℕ)) (used w₀ : ℕ) where
  pub record Along (cs : List (List ℕ)) (u l w m k : ℕ) (rest : List InnerCommand) : Type 0 where
    pub room : length cs ≡ length cs₀
    pub ready : NetReady kind cs u l
    pub number : m + sends rest ≤ 18446744073709551615
    pub goal : (hall : Around me) (last : Option Envelope) (a : Actor) → run_commands (room_of cs₀) me cmds (sys_in me hall kind last cs₀ used w₀ a)
        ≡ run_commands (room_of cs₀) me (take k (asked m rest)) (sys_in me hall kind last cs u w a)

  module _ (cs : List (List ℕ)) (u l w m k : ℕ) (rest : List InnerCommand) (on : Along cs u l w m k rest) where
    pub along-end : take k (asked m rest) ≡ [] → Ran kind me cmds cs₀ used w₀
        (record { answer = Done; used = u; len = l; timers = w; next = m; left = k }) cs
    unfolding run_commands
    along-end e = record {
      room = on.room;
      full = λ h. absurd (not-both (is_done Done) refl h);
      ready = λ h. on.ready;
      runs = λ h hall last a. on.goal hall last a ∙ rw e;
      stops = λ h. absurd (not-both (is_done Done) refl h);
    }

    pub along-room : (x : InnerCommand) (os : List InnerCommand) → rest ≡ x ∷ os → m + sends (x ∷ []) ≤ 18446744073709551615
    along-room x os split = let z = on.number in let s = ap sends split in let t = sends-cons x os in omega arith

    module _ (x : InnerCommand) (os : List InnerCommand) (split : rest ≡ x ∷ os) (r : Emitted) (cs' : List (List ℕ))
        (went : Went kind me x cs u w m k r cs') where
      rooms : room_of cs ≡ room_of cs₀
      rooms = room-same cs₀ cs on.room

      pub along-stop : is_done r.answer ≡ false → Ran kind me cmds cs₀ used w₀ r cs'
      along-stop f = record {
        room = went.room ∙ on.room;
        full = went.full;
        ready = λ h. absurd (not-both (is_done r.answer) h f);
        runs = λ h. absurd (not-both (is_done r.answer) h f);
        stops =
            λ h hall last a. on.goal hall last a ∙ ap (λ (o : List InnerCommand). run_commands (room_of cs₀) me (take k (asked m o))
            (sys_in me hall kind last cs u w a)) split ∙ ap
            (λ (c : Room). run_commands c me (take k (asked m (x ∷ os))) (sys_in me hall kind last cs u w a)) (sym rooms) ∙ went.stops h hall last a os;
      }

      pub along-step : is_done r.answer ≡ true → Along cs' r.used r.len r.timers r.next r.left os
      along-step t = record {
        room = went.room ∙ on.room;
        ready = went.ready t;
        number = let z = on.number in let s = ap sends split in let y = sends-cons x os in let v = went.number t in omega arith;
        goal = λ hall last a.
            on.goal hall last a ∙ ap (λ (o : List InnerCommand). run_commands (room_of cs₀) me (take k (asked m o))
            (sys_in me hall kind last cs u w a)) split
            ∙ ap (λ (c : Room). run_commands c me (take k (asked m (x ∷ os))) (sys_in me hall kind last cs u w a)) (sym rooms)
            ∙ went.onward t hall last a os ∙ ap (λ (c : Room). run_commands c me (take r.left (asked r.next os))
            (sys_in me hall kind last cs' r.used r.timers a)) rooms;
      }

pub nothing-more : (k m : ℕ) (rest : List InnerCommand) → rest ≡ [] → take k (asked m rest) ≡ []
unfolding asked
nothing-more zero m rest e = refl
nothing-more (suc k) m rest e = rw e

pub none_left : (k m : ℕ) (rest : List InnerCommand) → k ≡ 0 → take k (asked m rest) ≡ []
none_left k m rest e = rw e
