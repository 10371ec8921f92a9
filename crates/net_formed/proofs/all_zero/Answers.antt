-- Each is tested for zero.
-- Assumes nothing.
use Rattle.std.proofs.Common.{rules, sym, ◌∙◌}
use Rattle.std.proofs.lemmas.Iterator.{YieldsList-from_slice}
use Rattle.std.proofs.lemmas.Iterator.Search.{all_from_yields_List}
use borrow.Author.Tests.{tests}
use Rattle.lists.proofs.Library.{all-is}
use Rattle.net_formed.specs.Formed.{zeroed}
use Rattle.net_formed.proofs.all_zero.Goals as goal

pub returns : goal.returns
returns c =
    all_from_yields_List zeroed _ _ _ c.all.ensures.ran (YieldsList-from_slice c.args.entries.now cc) (λ x b q k. search (rules, tests))
    ∙ sym (all-is zeroed c.args.entries.now)
