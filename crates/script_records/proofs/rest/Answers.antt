-- Read at place 0, the place after a record is its size; a bad one has none.
use Prim.Native.Nat.{ℕ}
use mathlib.Core.Path.{ap, ◌∙◌}
use lib.ListN.{drop}
use Rattle.rules.specs.Script.{versions, format_of, unread}
use Rattle.script_records.specs.Views.{action_size}
use Rattle.script_records.proofs.Laws.{action-size}
use Rattle.script_records.proofs.rest.Goals as goal

pub returns-in-Ok : goal.returns-in-Ok
unfolding unread
returns-in-Ok c =
    let a = c.args in
    c.from.ensures
    ∙ ap (λ (n : ℕ). drop n a.s.now) (ap action_size c.in-Ok.ensures.value ∙ action-size (format_of versions a.version) a.s.now)

pub returns-in-Err : goal.returns-in-Err
unfolding unread
returns-in-Err c =
    let a = c.args in
    ap (λ (n : ℕ). drop n a.s.now) (ap action_size c.in-Err.ensures.value ∙ action-size (format_of versions a.version) a.s.now)
