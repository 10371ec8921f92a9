-- A live actor passes; a crashed one passes where no timer is set.
-- Assumes nothing.
use borrow.Author.Tests.{not-true, not-false}
use Rattle.rules.specs.Timers.{count_timers}
use Rattle.sys_actor.specs.Views.{quiet}
use Rattle.sys_actor.proofs.is_quiet.Goals as goal

pub returns-then-not-a : goal.returns-then-not-a
unfolding quiet
returns-then-not-a c = let e = not-true c.args.a.crashed c.if-not-a.true in rw e

pub returns-else-not-a : goal.returns-else-not-a
unfolding quiet count_timers
returns-else-not-a c = let e = not-false c.args.a.crashed c.if-not-a.false in let n = c.count.ensures in rw (e, n)
