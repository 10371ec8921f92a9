-- `kind_of` meets its contract: what is neither 0 nor 1 is above them.
-- Assumes nothing.
use native.Mathlib.Omega.{arith}
use Rattle.rules.specs.Network.{kind_of}
use Rattle.sys_start.proofs.First.{kind-above}
use Rattle.sys_start.proofs.kind_of.Goals as goal

pub returns-in-0 : goal.returns-in-0
unfolding kind_of
returns-in-0 c = rw c.in-0.is

pub returns-in-1 : goal.returns-in-1
unfolding kind_of
returns-in-1 c = rw c.in-1.is

pub returns-in_default : goal.returns-in_default
returns-in_default c = kind-above c.args.kind (λ e. omega arith) (λ e. omega arith)
