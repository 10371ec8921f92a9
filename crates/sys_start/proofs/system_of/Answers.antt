-- `system_of` meets its contract: the parts are put together.
-- Assumes nothing.
use Rattle.sys_start.proofs.system_of.Goals as goal

pub returns : goal.returns
returns c = rw (c.read_back.ensures, c.first_tables.ensures)
