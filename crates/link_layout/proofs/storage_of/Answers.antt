-- `link_layout::storage_of` meets its contract. A mark of 0 says that nothing is saved, and any other that the value is.
-- Assumes nothing.
use mathlib.Core.Path.{◌∙◌}
use Rattle.link_layout.proofs.Laws.{saved}
use Rattle.link_layout.proofs.storage_of.Goals as goal

pub returns : goal.returns
returns c = c.then_some.ensures ∙ saved _ _
