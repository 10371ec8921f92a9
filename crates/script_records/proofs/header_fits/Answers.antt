-- Each test is one of the header's, and the last one is left when the others passed.
use Rattle.std.proofs.Common.{arith}
use Rattle.std.proofs.lemmas.Grind.{common_steps}
use Rattle.lists.specs.Lists.{every}
use Rattle.rules.specs.Script.{header_ok}
use Rattle.script_records.proofs.header_fits.Goals as goal

pub returns-then-actors-le-MOST_ACTORS : goal.returns-then-actors-le-MOST_ACTORS
unfolding header_ok every
returns-then-actors-le-MOST_ACTORS c = grind (arith, common_steps)

pub returns-else-actors-le-MOST_ACTORS : goal.returns-else-actors-le-MOST_ACTORS
unfolding header_ok every
returns-else-actors-le-MOST_ACTORS c = grind (arith, common_steps)
