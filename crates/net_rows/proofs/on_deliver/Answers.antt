-- On kinds 0 and 2 a Deliver does what a Drop does. On kind 1 the cells stay.
-- Assumes nothing.
use mathlib.Core.Path.{ap}
use Rattle.rules.specs.Network.{is_duplicating}
use Rattle.net_rows.proofs.ByKind.{not-duplicating, delivered-one, delivered-copy}
use Rattle.net_rows.proofs.on_deliver.Goals as goal

pub returns-in-UnorderedDuplicating : goal.returns-in-UnorderedDuplicating
unfolding is_duplicating
returns-in-UnorderedDuplicating c =
    delivered-copy c.requires.laid c.args.e c.args.kind (ap is_duplicating c.in-UnorderedDuplicating.is)

pub returns-in_default : goal.returns-in_default
returns-in_default c =
    delivered-one c.requires.laid c.args.e c.args.kind (not-duplicating c.args.kind c.in_default.not-UnorderedDuplicating) c.on_drop.ensures
