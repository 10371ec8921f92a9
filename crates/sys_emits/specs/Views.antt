-- A system that holds cells as its network and an actor with a word of timers, and what a run of commands leaves of the two.
-- Assumes nothing.
use Rattle.std.specs.Prelude.{ℕ, ◌+◌, ◌≡◌, true, false, List, [], ◌∷◌, length, take, Option}
use Rattle.types.specs.declared.Id.{Id}
use Rattle.types.specs.declared.Kind.{Kind}
use Rattle.types.specs.declared.Envelope.{Envelope}
use Rattle.types.specs.declared.InnerCommand.{InnerCommand}
use Rattle.answers.specs.Answers.{NetworkFull}
use Rattle.rules.specs.Outcome.{done, refused}
use Rattle.rules.specs.Link.{Command}
use Rattle.rules.specs.System.{Actor, Sys, with_timers, run_commands}
use Rattle.sys_seat.specs.Seat.{Around, holding}
use Rattle.link_timers.specs.Views.{listed}
use Rattle.net_rows.specs.Views.{net_of, room_of, NetReady}
use Rattle.link_direct.specs.Direct.{asked, sends}
use Rattle.answers.specs.Answers.{is_done}
use Rattle.sys_emits.specs.declared.Emitted.{Emitted}

-- Network and timers in a hall, and all else of the actor.
abbrev pub sys_in : (me : Id) → Around me → Kind → Option Envelope → List (List ℕ) → ℕ → ℕ → Actor → Sys
sys_in me hall k last cs used w a = holding me hall (net_of k last cs used) (with_timers (listed w) a)

-- Commands that were run: the views at exit are those that the rules say of the views at entry, or 8. What is left in the cells
-- after an 8 is not said.
pub record Ran (kind : Kind) (me : Id) (cmds : List Command) (cs : List (List ℕ)) (used w : ℕ) (r : Emitted) (cs' : List (List ℕ)) : Type 0 where
  pub room : length cs' ≡ length cs
  pub full : is_done r.answer ≡ false → r.answer ≡ NetworkFull
  pub ready : is_done r.answer ≡ true → NetReady kind cs' r.used r.len
  pub runs : is_done r.answer ≡ true → (hall : Around me) (last : Option Envelope) (a : Actor)
      → run_commands (room_of cs) me cmds (sys_in me hall kind last cs used w a) ≡ done (sys_in me hall kind last cs' r.used r.timers a)
  pub stops : is_done r.answer ≡ false → (hall : Around me) (last : Option Envelope) (a : Actor)
      → run_commands (room_of cs) me cmds (sys_in me hall kind last cs used w a) ≡ refused 8

-- One inner command, of which at most `left` commands may run: what is to be run of it and the next ones is what is to be run of
-- the next ones afterwards.
pub record Went (kind : Kind) (me : Id) (x : InnerCommand) (cs : List (List ℕ)) (used w next left : ℕ) (r : Emitted) (cs' : List (List ℕ)) : Type 0 where
  pub room : length cs' ≡ length cs
  pub full : is_done r.answer ≡ false → r.answer ≡ NetworkFull
  pub ready : is_done r.answer ≡ true → NetReady kind cs' r.used r.len
  pub number : is_done r.answer ≡ true → r.next ≡ next + sends (x ∷ [])
  pub onward : is_done r.answer ≡ true → (hall : Around me) (last : Option Envelope) (a : Actor) (os : List InnerCommand)
      → run_commands (room_of cs) me (take left (asked next (x ∷ os))) (sys_in me hall kind last cs used w a)
      ≡ run_commands (room_of cs) me (take r.left (asked r.next os)) (sys_in me hall kind last cs' r.used r.timers a)
  pub stops : is_done r.answer ≡ false → (hall : Around me) (last : Option Envelope) (a : Actor) (os : List InnerCommand)
      → run_commands (room_of cs) me (take left (asked next (x ∷ os))) (sys_in me hall kind last cs used w a) ≡ refused 8
