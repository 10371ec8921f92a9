-- There is one version, so every number gives its format.
use mathlib.Core.Path.{◌≡◌, refl, ◌∙◌}
use mathlib.Core.Bool.{Bool, true, false}
use lib.Dec.{eqb}
use Rattle.lists.specs.Lists.{choose}
use Rattle.types.specs.declared.Format.{Format}
use Rattle.rules.specs.Script.{version1, format_of}
use Rattle.script_records.proofs.format_of.Goals as goal

either : (b : Bool) (f : Format) → f ≡ choose b f f
unfolding choose
either true f = refl
either false f = refl

pub returns : goal.returns
unfolding format_of
returns c = c.version_1.ensures ∙ either (eqb c.args.version 1) version1
