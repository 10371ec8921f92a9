-- The actor of an action is the one that it names: for a Deliver and a Drop the destination.
use Rattle.sys_act.specs.Seats.{target}
use borrow.Author.Rules.{rules}
use Rattle.sys_act.proofs.actor_of.Goals as goal

pub returns-in-Deliver : goal.returns-in-Deliver
unfolding target
returns-in-Deliver c = search rules

pub returns-in-Timeout : goal.returns-in-Timeout
unfolding target
returns-in-Timeout c = search rules

pub returns-in-Timeout-2 : goal.returns-in-Timeout-2
unfolding target
returns-in-Timeout-2 c = search rules

pub returns-in-Timeout-3 : goal.returns-in-Timeout-3
unfolding target
returns-in-Timeout-3 c = search rules
