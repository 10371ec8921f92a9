-- `zero_durable` meets its contract: it asks what is asked of a store that holds nothing.
-- Assumes nothing.
use mathlib.Core.Path.{refl, ◌∙◌}
use Rattle.link_durable.proofs.Kept.{stored-none}
use Rattle.sys_actor.specs.Views.{zeroed}
use Rattle.sys_actor.proofs.zero_durable.Goals as goal

pub returns : goal.returns
unfolding zeroed
returns c = c.stored_ok.ensures ∙ stored-none 0 _ refl
