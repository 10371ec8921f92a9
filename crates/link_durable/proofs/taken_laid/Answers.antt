-- The test that is lent computes the test of the definition.
use Rattle.std.proofs.Common.{rules}
use Rattle.link_durable.specs.Views.{blank_number, taken_laid}
use Rattle.link_durable.proofs.taken_laid.Goals as goal

pub returns : goal.returns
unfolding taken_laid blank_number
returns c = c.is_laid.ensures blank_number (λ f h x b k. search rules)
