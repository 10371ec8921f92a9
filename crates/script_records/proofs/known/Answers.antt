-- There is one version.
use mathlib.Core.Bool.{or-false}
use mathlib.Core.Path.{sym}
use lib.Dec.{eqb}
use Rattle.lists.specs.Lists.{any}
use Rattle.script_records.proofs.known.Goals as goal

pub returns : goal.returns
unfolding any
returns c = sym (or-false (eqb c.args.version 1))
