-- 6 and 7 of so many sends, and what a message and the commands after it leave, put back after an 8 or not.
-- Assumes nothing.
use Rattle.std.specs.Prelude.{ℕ, ◌-◌, ◌≡◌, Bool, true, false, ◌&&◌, ◌||◌, List, [], ◌∷◌, length, leb, Option, None}
use Rattle.lists.specs.Lists.{choose}
use Rattle.types.specs.declared.Id.{Id}
use Rattle.types.specs.declared.Kind.{Kind}
use Rattle.types.specs.declared.Envelope.{Envelope}
use Rattle.answers.specs.Answers.{answer_number}
use Rattle.types.specs.declared.Message.TheVariants.{Ack}
use Rattle.rules.specs.Outcome.{Outcome, done, refused, bind, Limits}
use Rattle.rules.specs.Network.{Net, is_duplicating, present, on_deliver}
use Rattle.link_timers.specs.Views.{listed}
use Rattle.rules.specs.Link.{Command, Send}
use Rattle.rules.specs.System.{Actor, Sys, with_timers, run_commands}
use Rattle.sys_seat.specs.Seat.{Around, holding}
use Rattle.net_rows.specs.Views.{last_after, net_of, room_of, NetReady}
use Rattle.answers.specs.Answers.{is_done}
use Rattle.sys_emits.specs.declared.Emitted.{Emitted}
use Rattle.sys_emits.specs.Views.{sys_in}
use Rattle.sys_reacts.specs.declared.First.{First}
use Rattle.sys_reacts.specs.declared.First.TheVariants.{Nothing, Message}

-- The places are those of the rows.
abbrev pub limits_of : ℕ → Limits
limits_of room = record { numbers = 18446744073709551615; pending = room }

-- The first to run out decides, numbers before places.
unfoldable pub refusal_of : ℕ → ℕ → ℕ → ℕ → ℕ
refusal_of next pending room sends =
    choose (leb sends (18446744073709551615 - next) && leb sends (room - pending)) 0
    (choose (leb (18446744073709551615 - next) (room - pending)) 6 7)

-- The commands that go before a row's own.
unfoldable pub front_of : Id → First → List Command
front_of source Nothing = []
front_of source (Message e n) = Send source (Ack n) ∷ []

-- A message is there to be delivered: else 3.
unfoldable pub there : Kind → Envelope → List (List ℕ) → ℕ → Bool
there kind e cs used = is_duplicating kind || present e (net_of kind None cs used)

-- What goes first does this to the network, and this to the last message.
abbrev pub entering : First → Net → Outcome Net
entering Nothing n = done n
entering (Message e v) n = on_deliver e n

abbrev pub last_by : Kind → First → Option Envelope → Option Envelope
last_by kind Nothing last = last
last_by kind (Message e v) last = last_after kind e last

-- What goes first, and the commands after it.
abbrev pub following : Kind → (me : Id) → First → List Command → List (List ℕ) → ℕ → ℕ → Around me → Option Envelope → Actor → Outcome Sys
following kind me first cmds cs used w hall last a =
    bind (entering first (net_of kind last cs used)) (λ n. run_commands (room_of cs) me cmds (holding me hall n (with_timers (listed w) a)))

-- They were run, or 3 with nothing changed, or 8: what is left in the cells after an 8 is not said.
pub record Tried (kind : Kind) (me : Id) (first : First) (cmds : List Command) (cs : List (List ℕ)) (used n w : ℕ) (r : Emitted)
    (cs' : List (List ℕ)) : Type 0 where
  pub room : length cs' ≡ length cs
  pub ready : is_done r.answer ≡ true → NetReady kind cs' r.used r.len
  pub runs : is_done r.answer ≡ true → (hall : Around me) (last : Option Envelope) (a : Actor) → following kind me first cmds cs used w hall last a
      ≡ done (sys_in me hall kind (last_by kind first last) cs' r.used r.timers a)
  pub stops : is_done r.answer ≡ false → (hall : Around me) (last : Option Envelope) (a : Actor) → following kind me first cmds cs used w hall last a
      ≡ refused (answer_number r.answer)
  pub same : (k : ℕ) → entering first (net_of kind None cs used) ≡ refused k
      → (cs' ≡ cs) × (r.used ≡ used) × (r.len ≡ n) × (r.timers ≡ w)

-- They were run, or else everything is as it was.
pub record Safe (kind : Kind) (me : Id) (first : First) (cmds : List Command) (cs : List (List ℕ)) (used n w : ℕ) (r : Emitted)
    (cs' : List (List ℕ)) : Type 0 where
  pub room : length cs' ≡ length cs
  pub ready : NetReady kind cs' r.used r.len
  pub runs : is_done r.answer ≡ true → (hall : Around me) (last : Option Envelope) (a : Actor) → following kind me first cmds cs used w hall last a
      ≡ done (sys_in me hall kind (last_by kind first last) cs' r.used r.timers a)
  pub stops : is_done r.answer ≡ false → (hall : Around me) (last : Option Envelope) (a : Actor) → following kind me first cmds cs used w hall last a
      ≡ refused (answer_number r.answer)
  pub kept : is_done r.answer ≡ false → (cs' ≡ cs) × (r.used ≡ used) × (r.len ≡ n) × (r.timers ≡ w)
