-- Each arm knows the kind. The first entry of all is offered; another is where its flow is not that of the entry before.
-- Assumes nothing.
use mathlib.Core.Bool.{not}
use mathlib.Core.Logic.{⊎_elim}
use mathlib.Core.Path.{ap}
use borrow.Author.Tests.{ne_eqb}
use Rattle.net_listing.specs.Listing.{opens, shows}
use Rattle.net_listing.proofs.is_offered.Goals as goal

pub returns-then-i-eq0 : goal.returns-then-i-eq0
unfolding opens shows
returns-then-i-eq0 c = rw (c.in-Ordered.is, c.if-i-eq0.true)

pub returns-else-i-eq0 : goal.returns-else-i-eq0
unfolding opens shows
returns-else-i-eq0 c = rw (c.in-Ordered.is, ne_eqb _ _ c.if-i-eq0.false) (ap not c.same_flow.ensures)

pub returns-in-UnorderedDuplicating : goal.returns-in-UnorderedDuplicating
unfolding opens shows
returns-in-UnorderedDuplicating c = ⊎_elim (λ e. rw e) (λ e. rw e) c.in-UnorderedDuplicating.is
