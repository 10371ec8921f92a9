-- The test that is lent computes the test of the definition.
use Rattle.std.proofs.Common.{rules}
use Rattle.link_durable.specs.Views.{blank_pending, pendings_laid}
use Rattle.link_durable.proofs.pendings_laid.Goals as goal

pub returns : goal.returns
unfolding pendings_laid
returns c = c.is_laid.ensures blank_pending (λ f h x b k. search rules)
