-- The comparison is the definition's own, and the wider number is the same number.
-- Assumes nothing.
use mathlib.Core.Path.{refl}
use Rattle.rules.specs.WellFormed.{source_known}
use Rattle.net_formed.proofs.source_known.Goals as goal

pub returns : goal.returns
unfolding source_known
returns c = refl
