-- Derived equality is that of the definitions.
-- Assumes nothing.
use mathlib.Core.Path.{◌∙◌}
use Rattle.types.proofs.Derived.{envelope-eq}
use Rattle.net_compare.proofs.same_envelope.Goals as goal

pub returns : goal.returns
returns c = c.eq.ensures ∙ envelope-eq _ _
