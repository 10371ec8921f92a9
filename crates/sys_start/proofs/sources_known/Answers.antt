-- Each one's source is tested.
-- Assumes nothing.
use Rattle.std.proofs.Common.{rules, ◌∙◌}
use Rattle.std.proofs.lemmas.Iterator.{YieldsList-from_slice}
use Rattle.std.proofs.lemmas.Iterator.Search.{all_from_yields_List}
use borrow.Author.Tests.{tests}
use Rattle.rules.specs.WellFormed.{source_known}
use Rattle.sys_start.proofs.First.{listed-all}
use Rattle.sys_start.proofs.sources_known.Goals as goal

pub returns : goal.returns
returns c =
    all_from_yields_List (source_known c.args.count) _ _ _ c.all.ensures.ran (YieldsList-from_slice c.args.list.now cc) (λ x b q k. search (rules, tests))
    ∙ listed-all (source_known c.args.count) c.args.list.now
