-- Each arm knows the kind, and calls the comparison by which that kind is ordered.
-- Assumes nothing.
use mathlib.Core.Bool.{not}
use mathlib.Core.Logic.{⊎_elim}
use mathlib.Core.Path.{ap}
use Rattle.rules.specs.WellFormed.{in_order}
use Rattle.net_formed.proofs.stands_before.Goals as goal

pub returns-in-Ordered : goal.returns-in-Ordered
unfolding in_order
returns-in-Ordered c = rw c.in-Ordered.is (ap not c.flow_before.ensures)

pub returns-in-UnorderedDuplicating : goal.returns-in-UnorderedDuplicating
unfolding in_order
returns-in-UnorderedDuplicating c =
    ⊎_elim (λ e. rw e c.before-in-UnorderedDuplicating.ensures) (λ e. rw e c.before-in-UnorderedDuplicating.ensures) c.in-UnorderedDuplicating.is
