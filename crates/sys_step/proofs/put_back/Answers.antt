-- A refusal hands back the system as it came; else the two parts are written into it.
use mathlib.Core.Path.{sym, ◌∙◌}
use Rattle.lists.specs.Lists.{choose}
use Rattle.sys_step.proofs.put_back.Goals as goal

pub returns-then-not-is_done : goal.returns-then-not-is_done
unfolding choose
returns-then-not-is_done c = rw (sym c.is_done.ensures ∙ c.if-not-is_done.true)

pub returns : goal.returns
unfolding choose
returns c = rw (sym c.is_done.ensures ∙ c.if-not-is_done.false)
