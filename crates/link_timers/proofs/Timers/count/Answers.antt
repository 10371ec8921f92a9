-- As many bits are set as timers are listed.
use borrow.Author.Rules.{rules}
use mathlib.Core.Path.{sym}
use Rattle.link_timers.proofs.Listed.{count_ones}
use Rattle.link_timers.proofs.Timers.count.Goals as goal

pub returns : goal.returns
returns c = sym (count_ones _ (search rules))
