-- No last message is fine. One is fine on kind 1 from a known source, and each arm knows the kind.
-- Assumes nothing.
use Rattle.rules.specs.Network.{is_duplicating}
use Rattle.rules.specs.WellFormed.{last_ok}
use Rattle.net_formed.proofs.last_ok.Goals as goal

pub returns-in_default : goal.returns-in_default
unfolding last_ok
returns-in_default c = rw c.in_default.is

pub returns-in-Ordered : goal.returns-in-Ordered
unfolding last_ok is_duplicating
returns-in-Ordered c = rw (c.in-Some.is, c.in-Ordered.is)

pub returns-in-UnorderedDuplicating : goal.returns-in-UnorderedDuplicating
unfolding last_ok is_duplicating
returns-in-UnorderedDuplicating c = rw (c.in-Some.is, c.in-UnorderedDuplicating.is) c.source_known.ensures

pub returns-in-UnorderedNonDuplicating : goal.returns-in-UnorderedNonDuplicating
unfolding last_ok is_duplicating
returns-in-UnorderedNonDuplicating c = rw (c.in-Some.is, c.in-UnorderedNonDuplicating.is)
