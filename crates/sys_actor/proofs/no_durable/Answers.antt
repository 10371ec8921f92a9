-- `no_durable` meets its contract: the arrays that it makes are the padded ones.
-- Assumes nothing.
use mathlib.Core.Path.{refl}
use Rattle.lists.specs.Lists.{pad}
use Rattle.sys_actor.proofs.no_durable.Goals as goal

pub returns : goal.returns
unfolding pad
returns c = refl
