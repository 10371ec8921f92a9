-- `source_known` meets its contract. The test is the definition's.
-- Assumes nothing.
use mathlib.Core.Path.{refl}
use Rattle.rules.specs.WellFormed.{source_known}
use Rattle.sys_start.proofs.source_known.Goals as goal

pub returns : goal.returns
unfolding source_known
returns c = refl
