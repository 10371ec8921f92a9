-- The array that it makes is the one of its definition.
use mathlib.Core.Path.{refl}
use Rattle.link_inner.proofs.zero_rule.Goals as goal

pub returns : goal.returns
returns c = refl
