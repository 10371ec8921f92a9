-- The bytes that the bits take are there, and what pads the last of them is a field that is 0.
use borrow.Author.Tests.{le-leb, lt-leb}
use Rattle.layout.specs.Form.{whole_of}
use Rattle.script_bits.proofs.whole.Goals as goal

pub returns-then-size-s : goal.returns-then-size-s
unfolding whole_of
returns-then-size-s c = rw (le-leb _ _ c.if-size-s.true, ← c.field.ensures)

pub returns-else-size-s : goal.returns-else-size-s
unfolding whole_of
returns-else-size-s c = rw (lt-leb _ _ c.if-size-s.false)
