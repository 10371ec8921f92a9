-- The array that it makes is the padded one.
use Rattle.lists.specs.Lists.{pad}
use Rattle.link_inner.proofs.zero_table.Goals as goal

pub returns : goal.returns
unfolding pad
returns c = rw c.zero_rule-r.ensures
