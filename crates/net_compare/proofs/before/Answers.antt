-- The derived order is the definition's.
-- Assumes nothing.
use mathlib.Core.Path.{◌∙◌}
use Rattle.types.proofs.Derived.{envelope-before}
use Rattle.net_compare.proofs.before.Goals as goal

pub returns : goal.returns
returns c = c.lt.ensures ∙ envelope-before _ _
