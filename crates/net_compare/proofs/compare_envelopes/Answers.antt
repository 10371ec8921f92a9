-- The derived order is the definition's.
-- Assumes nothing.
use mathlib.Core.Path.{◌∙◌}
use Rattle.types.proofs.Derived.{envelope-cmp}
use Rattle.net_compare.proofs.compare_envelopes.Goals as goal

pub returns : goal.returns
returns c = c.cmp.ensures ∙ envelope-cmp _ _
