-- Each of its parts is the zero one.
-- Assumes nothing.
use Rattle.sys_actor.proofs.zero_actor.Goals as goal

pub returns : goal.returns
returns c = rw c.no_durable-d.ensures
