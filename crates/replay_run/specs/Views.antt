-- What a run writes from a system on, and what its code asks.
-- Assumes nothing.
use Rattle.std.specs.Prelude.{ℕ, ◌≤◌, Bool, ◌≡◌, List, ◌++◌, length, drop}
use Rattle.types.specs.Capacities.{most_bytes}
use Rattle.types.specs.declared.Action.{Action}
use Rattle.types.specs.declared.Format.{Format}
use Rattle.layout.specs.Read.{read}
use Rattle.rules.specs.Outcome.{base}
use Rattle.rules.specs.System.{Sys}
use Rattle.rules.specs.Run.{answers, Totals, counted, totals}
use Rattle.rules.specs.Script.{Fine, actions_from}
use Rattle.rules.specs.Program.{action_lines, done_line}
use Rattle.replay_lines.specs.Pieces.{Fits, Piece}
use Rattle.sys_system.specs.declared.System.{System}
use Rattle.sys_system.specs.Views.{sys_view}
use Rattle.sys_answered.specs.Views.{Ready}
use Rattle.replay_run.specs.declared.Tally.{Tally}

-- A line for each action, then the totals.
unfoldable pub run_text : Sys → List Action → List ℕ
run_text m l = action_lines base m l ++ done_line (totals (answers base m l))

-- The rules' totals that the struct holds, and back.
abbrev pub totals_in : Tally → Totals
totals_in t = record { next_count = t.next; ignored_count = t.ignored; refused_count = t.refused }

abbrev pub tally_of : Totals → Tally
tally_of t = record { next = t.next_count; ignored = t.ignored_count; refused = t.refused_count }

abbrev pub tallied : ℕ → Tally → Tally
tallied n t = tally_of (counted n (totals_in t))

-- What a run promises of the place after its text and of the buffer, for whatever actions are read from the place on.
abbrev pub Writes : List ℕ → ℕ → Format → System → List ℕ → ℕ → Bool → ℕ → List ℕ → Type 0
Writes script from f s out place write end left =
    (l : List Action) (ys : List ℕ) (q : ℕ) → actions_from f (drop from script) from ≡ read l ys q
    → Piece write place (run_text (sys_view s) l) out end left

-- Actions can be read from the place on, the system is well formed, and the output fits.
pub record Runs (script : List ℕ) (from : ℕ) (f : Format) (s : System) (out : List ℕ) (place : ℕ) (write : Bool) : Type 0 where
  pub actions : List Action
  pub left : List ℕ
  pub end : ℕ
  pub reads : actions_from f (drop from script) from ≡ read actions left end
  pub fine : Fine f
  pub short : length script ≤ most_bytes
  pub ready : Ready s
  pub fits : Fits write place (run_text (sys_view s) actions) out
  pub small : place ≤ 80
