-- An answer is 0, 1 or another number, and each has its own total.
use native.Mathlib.Omega.{arith}
use Rattle.replay_run.proofs.Totals.{tallied-none, tallied-one, tallied-more}
use Rattle.replay_run.proofs.Tally.count.Goals as goal

pub returns-in-0 : goal.returns-in-0
returns-in-0 c = tallied-none _ _ c.in-0.is

pub returns-in-1 : goal.returns-in-1
returns-in-1 c = tallied-one _ _ c.in-1.is

pub returns-in_default : goal.returns-in_default
returns-in_default c = tallied-more _ _ (λ e. omega arith) (λ e. omega arith)
