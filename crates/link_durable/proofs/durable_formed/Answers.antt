-- The tests run in the order of the definition, but for the count of records: laid out says that already.
use Rattle.std.proofs.Common.{rules}
use Rattle.lists.specs.Lists.{every}
use Rattle.link_durable.proofs.Containers.{counts, formed}
use Rattle.link_durable.proofs.durable_formed.Goals as goal

pub in_use-pending-requires : goal.in_use-pending-requires
in_use-pending-requires c = (search rules, (counts c.args.d.now c.requires).0)

pub in_use-taken-requires : goal.in_use-taken-requires
in_use-taken-requires c = (search rules, (counts c.args.d.now c.requires).1)

pub returns-then-taken-actors : goal.returns-then-taken-actors
unfolding every
returns-then-taken-actors c = rw (formed c.args.d.now c.args.actors c.requires) (search rules)

pub returns-else-taken-actors : goal.returns-else-taken-actors
unfolding every
returns-else-taken-actors c = rw (formed c.args.d.now c.args.actors c.requires) (search rules)
