-- Which actor an action touches, and what a Drop and a Crash leave of the rows.
-- Assumes nothing.
use Rattle.std.specs.Prelude.{ℕ, ◌≤◌, ◌<◌, ◌≡◌, List, set, ltb, Option}
use Rattle.lists.specs.Lists.{choose}
use Rattle.types.specs.declared.Id.{Id}
use Rattle.types.specs.declared.Kind.{Kind}
use Rattle.types.specs.declared.Envelope.{Envelope}
use Rattle.types.specs.declared.Action.{Action}
use Rattle.types.specs.declared.Action.TheVariants.{Deliver, Drop, Timeout, Crash, Recover}
use Rattle.answers.specs.Answers.{Answer}
use Rattle.answers.specs.Answers.{Ignored, OutOfRange}
use Rattle.rules.specs.Network.{on_drop}
use Rattle.net_rows.specs.declared.Sent.{Sent}
use Rattle.net_rows.specs.Views.{net_of, Changed}

-- A Drop touches the network alone, so any actor serves.
unfoldable pub target : Action → Id
target (Deliver e) = e.dst
target (Drop e) = e.dst
target (Timeout i t) = i
target (Crash i) = i
target (Recover i) = i

-- The place of that actor, or the first one where there is none: it is not looked at then.
unfoldable pub seat : ℕ → Action → ℕ
seat n a = choose (ltb (target a).0 n) (target a).0 0

abbrev pub seat_of : ℕ → Action → Id
seat_of n a = record { 0 = seat n a }

-- A Drop: 2, else as the network says.
pub record Dropped (kind : Kind) (e : Envelope) (count used n : ℕ) (cs : List (List ℕ)) (r : Sent) (cs' : List (List ℕ)) : Type 0 where
  pub unknown : count ≤ e.src.0 → (r ≡ record { answer = OutOfRange; used = used; len = n }) × (cs' ≡ cs)
  pub drops : e.src.0 < count → (last : Option Envelope) → Changed cs used n (on_drop e (net_of kind last cs used)) r cs'

-- A message to nobody: 2 for its source, and else Ignored.
abbrev pub unheard_of : ℕ → Envelope → Answer
unheard_of count e = choose (ltb e.src.0 count) Ignored OutOfRange

-- The live row of an actor that has crashed: marked, with no timer.
abbrev pub crashed_row : List ℕ → List ℕ
crashed_row w = set (set w 5 1) 6 0
