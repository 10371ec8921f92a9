-- `blank` meets its contract: it pads nothing.
-- Assumes nothing.
use Rattle.lists.specs.Lists.{pad}
use Rattle.rules.specs.Network.{kind_of}
use Rattle.rules.specs.Start.{boot, blank}
use Rattle.sys_system.proofs.blank.Goals as goal

pub returns : goal.returns
unfolding pad kind_of boot blank
returns c = rw (c.blank-n.ensures, c.zero_actor-a.ensures, c.zero_table-t.ensures)
