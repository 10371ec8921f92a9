-- The derived order is the definition's.
-- Assumes nothing.
use mathlib.Core.Path.{◌∙◌}
use Rattle.types.proofs.Derived.{message-cmp}
use Rattle.net_compare.proofs.compare_messages.Goals as goal

pub returns : goal.returns
returns c = c.cmp.ensures ∙ message-cmp _ _
