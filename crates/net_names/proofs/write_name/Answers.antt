-- The test is the definition's own, and what was written and the rest of the buffer are its two parts.
-- Assumes nothing.
use borrow.Author.Tests.{le-leb, lt-leb}
use Rattle.lists.specs.Lists.{choose}
use Rattle.net_names.specs.Names.{written_as, left_on}
use Rattle.net_names.proofs.write_name.Goals as goal

pub returns-then-out-n : goal.returns-then-out-n
unfolding written_as left_on choose
returns-then-out-n c =
    let e = c.name_of-name.ensures in
    let f = rw e at (lt-leb _ _ c.if-out-n.true) in
    record { value = rw f; out_after = rw f }

pub returns : goal.returns
unfolding written_as left_on choose
returns c =
    let e = c.name_of-name.ensures in
    let f = rw e at (le-leb _ _ c.if-out-n.false) in
    record { value = rw (f, e); out_after = rw (f, c.copy_from_slice.ensures.after, e) }
