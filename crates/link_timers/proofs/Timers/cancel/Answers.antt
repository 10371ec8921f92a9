-- The word without the bit of a timer that is set holds the list without it.
use mathlib.Core.Path.{sym, ◌∙◌}
use borrow.Author.Rules.{rules}
use Rattle.link_timers.proofs.Words.{set-small, cancel-same, cancel-missing, cancel-set}
use Rattle.link_timers.proofs.Timers.cancel.Goals as goal

pub overflow_shl-result : goal.overflow_shl-result
overflow_shl-result c = set-small _ _ (sym c.is_set.ensures ∙ c.if-is_set.true)

pub returns-then-is_set : goal.returns-then-is_set
returns-then-is_set c =
    let a = c.args in
    let here = sym c.is_set.ensures ∙ c.if-is_set.true in
    cancel-set a.self a.t (search rules) (set-small _ _ here) here

pub returns : goal.returns
returns c =
    let a = c.args in
    cancel-same a.self a.t (search rules) (cancel-missing _ _ (sym c.is_set.ensures ∙ c.if-is_set.false))
