-- Each arm knows the kind, and its literal holds the bytes of that kind's name.
-- Assumes nothing.
use Rattle.rules.specs.Network.{name_of}
use Rattle.net_names.proofs.name_of.Goals as goal

pub returns-in-Ordered : goal.returns-in-Ordered
unfolding name_of
returns-in-Ordered c = rw c.in-Ordered.is

pub returns-in-UnorderedDuplicating : goal.returns-in-UnorderedDuplicating
unfolding name_of
returns-in-UnorderedDuplicating c = rw c.in-UnorderedDuplicating.is

pub returns-in-UnorderedNonDuplicating : goal.returns-in-UnorderedNonDuplicating
unfolding name_of
returns-in-UnorderedNonDuplicating c = rw c.in-UnorderedNonDuplicating.is
