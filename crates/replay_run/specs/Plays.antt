-- What the inner function of a run is held to, which works on rows. No public contract cites this file.
-- Assumes nothing.
use Rattle.std.specs.Prelude.{ℕ, ◌≤◌, Bool, true, ◌≡◌, List, length, drop, Option}
use Rattle.types.specs.Capacities.{most_bytes}
use Rattle.types.specs.declared.Action.{Action}
use Rattle.types.specs.declared.Format.{Format}
use Rattle.types.specs.declared.Kind.{Kind}
use Rattle.types.specs.declared.Envelope.{Envelope}
use Rattle.layout.specs.Read.{read}
use Rattle.rules.specs.Outcome.{base}
use Rattle.rules.specs.WellFormed.{well_formed}
use Rattle.rules.specs.Script.{Fine, actions_from}
use Rattle.replay_lines.specs.Pieces.{Fits, Piece}
use Rattle.sys_all_rows.specs.Views.{Hall, Books, sys_of, Stands}
use Rattle.replay_run.specs.Views.{run_text}

-- Actions can be read from the place on, the rows are a system that is well formed, with some last message, and the output fits.
pub record Plays (script : List ℕ) (from : ℕ) (f : Format) (out : List ℕ) (place : ℕ) (write : Bool) (count : ℕ) (kind : Kind) (used n : ℕ)
    (b : Books) (cs : List (List ℕ)) (h : Hall) : Type 0 where
  pub stands : Stands count kind used n b cs h
  pub last : Option Envelope
  pub formed : well_formed base (sys_of count kind last cs used b h) ≡ true
  pub actions : List Action
  pub left : List ℕ
  pub end : ℕ
  pub reads : actions_from f (drop from script) from ≡ read actions left end
  pub fine : Fine f
  pub short : length script ≤ most_bytes
  pub fits : Fits write place (run_text (sys_of count kind last cs used b h) actions) out
  pub small : place ≤ 80

-- Whatever the last message was, the run's text is written.
abbrev pub Played : List ℕ → ℕ → Format → List ℕ → ℕ → Bool → ℕ → Kind → ℕ → ℕ → Books
    → List (List ℕ) → Hall → ℕ → List ℕ → Type 0
Played script from f out place write count kind used n b cs h end out' =
    (p : Plays script from f out place write count kind used n b cs h)
    → Piece write place (run_text (sys_of count kind p.last cs used b h) p.actions) out end out'
