-- How a step on the rows ends a whole action: its outcome is that of the rules' action in every system that holds them.
-- Assumes nothing.
use Prim.Native.Nat.{ℕ}
use mathlib.Core.Path.{◌≡◌, refl, ◌∙◌}
use mathlib.Core.Bool.{false}
use mathlib.Core.List.{List}
use lib.ListN.{length}
use Rattle.types.specs.declared.Id.{Id}
use Rattle.types.specs.declared.Kind.{Kind}
use Rattle.types.specs.declared.Rule.{Rule}
use Rattle.std.specs.Prelude.{Option}
use Rattle.answers.specs.Answers.{Answer}
use Rattle.answers.specs.Answers.{answer_number, is_done}
use Rattle.rules.specs.Outcome.{Outcome, refused}
use Rattle.rules.specs.System.{Sys}
use Rattle.net_rows.specs.declared.Sent.{Sent}
use Rattle.sys_seat.specs.Seat.{Around}
use Rattle.sys_emits.proofs.Laws.{not-both}
use Rattle.sys_moves.specs.Views.{Rows, Fine, Acted, Ended}
use Rattle.types.specs.declared.Envelope.{Envelope}

module _ (me : Id) (count : ℕ) (rs : List Rule) (o : Around me → Option Envelope → Outcome Sys) (after : Option Envelope → Option Envelope) (kind : Kind)
    (used n : ℕ)
    (x : Rows) where
  -- By a step whose outcome is the same.
  pub ended_by : (o' : Around me → Option Envelope → List Rule → Outcome Sys) (r : Sent) (x' : Rows) → Acted me o' after kind used n x r x'
      → ((hall : Around me) → length hall.sys.actors ≡ count → (last : Option Envelope) → o hall last ≡ o' hall last rs)
      → Ended me count rs o after kind used n x r x'
  ended_by o' r x' a e = record {
    fine = a.fine;
    runs = λ t hall size last. e hall size last ∙ a.runs t hall last rs;
    stops = λ f hall size last. e hall size last ∙ a.stops f hall last rs;
    same = a.same;
  }

  -- With nothing done: the refusal is that of the rules.
  pub ended-refused : Fine kind used n x → (why : Answer) → is_done why ≡ false
      → ((hall : Around me) → length hall.sys.actors ≡ count → (last : Option Envelope) → o hall last ≡ refused (answer_number why))
      → Ended me count rs o after kind used n x (record { answer = why; used = used; len = n }) x
  ended-refused fine why f e = record {
    fine = fine;
    runs = λ t. absurd (not-both (is_done why) t f);
    stops = λ _. e;
    same = λ _. (refl, refl, refl);
  }
