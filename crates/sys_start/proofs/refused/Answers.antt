-- `refused` meets its contract: the system is what `blank` made.
-- Assumes nothing.
use Rattle.sys_start.proofs.refused.Goals as goal

pub returns : goal.returns
returns c = rw c.blank-s.ensures
