-- With the lower bits cleared, the trailing zeros lead to the first of the list that is left.
use mathlib.Core.Path.{sym}
use borrow.Author.Rules.{rules}
use Rattle.link_timers.proofs.First.{first-none}
use Rattle.link_timers.proofs.Words.{next-none, next-timer}
use Rattle.link_timers.proofs.Timers.next.Goals as goal

pub returns-then-from-gt-NETWORK : goal.returns-then-from-gt-NETWORK
returns-then-from-gt-NETWORK c = sym (first-none c.args.self.0 c.args.from (search rules))

pub returns-then-zeros : goal.returns-then-zeros
returns-then-zeros c =
    let a = c.args in
    next-none a.self.0 a.from (search rules) (search rules) c.if-zeros.true

pub returns : goal.returns
returns c =
    let a = c.args in
    next-timer a.self.0 a.from (search rules) (search rules) c.if-zeros.false
