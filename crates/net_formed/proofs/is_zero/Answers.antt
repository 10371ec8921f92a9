-- The count and then the envelope decide, in the definition as in the code.
-- Assumes nothing.
use mathlib.Core.Path.{ap, ◌∙◌}
use borrow.Author.Tests.{ne_eqb, eq-eqb}
use Rattle.types.specs.Order.{same}
use Rattle.types.specs.declared.Entry.{Entry}
use Rattle.net_formed.specs.Formed.{zeroed}
use Rattle.net_formed.proofs.is_zero.Goals as goal

pub returns-then-x-eq0 : goal.returns-then-x-eq0
unfolding zeroed
returns-then-x-eq0 c =
    rw (eq-eqb _ _ c.if-x-eq0.true)
    (c.same_envelope.ensures ∙ ap (λ (y : Entry). same c.args.x.envelope y.envelope) c.zero_entry-z.ensures)

pub returns-else-x-eq0 : goal.returns-else-x-eq0
unfolding zeroed
returns-else-x-eq0 c = rw (ne_eqb _ _ c.if-x-eq0.false)
