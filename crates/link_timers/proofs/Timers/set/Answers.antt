-- A timer above Network and one that is set change nothing. For any other, the word with its bit holds the list with the timer in its place.
use mathlib.Core.Path.{sym, ◌∙◌}
use borrow.Author.Rules.{rules}
use Rattle.rules.proofs.Timers.{set-above}
use Rattle.link_timers.specs.Views.{listed}
use Rattle.link_timers.proofs.Words.{set_same, set-again, set-anew}
use Rattle.link_timers.proofs.Timers.set.Goals as goal
use Rattle.link_timers.proofs.Timers.set.Goals.{then-t-gt-NETWORK-via-then-t-gt-NETWORK, then-t-gt-NETWORK-via-else-t-gt-NETWORK+then-is_set}

pub returns-then-t-gt-NETWORK : goal.returns-then-t-gt-NETWORK
returns-then-t-gt-NETWORK c =
    let a = c.args in
    elim c.then-t-gt-NETWORK.branch [
      | then-t-gt-NETWORK-via-then-t-gt-NETWORK w ↦ set_same a.self a.t (search rules) (set-above a.t (listed a.self.0) (search rules)).1
      | then-t-gt-NETWORK-via-else-t-gt-NETWORK+then-is_set w ↦ set_same a.self a.t (search rules) (set-again _ _ (sym w.is_set.ensures ∙ w.if-is_set.true))
    ]

pub returns : goal.returns
returns c =
    let a = c.args in
    set-anew a.self a.t (search rules) (search rules) (sym c.is_set.ensures ∙ c.if-is_set.false)
