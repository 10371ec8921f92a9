-- Each one's source is tested.
-- Assumes nothing.
use Rattle.std.proofs.Common.{rules, sym, ◌∙◌}
use Rattle.std.proofs.lemmas.Iterator.{YieldsList-from_slice}
use Rattle.std.proofs.lemmas.Iterator.Search.{all_from_yields_List}
use borrow.Author.Tests.{tests}
use Rattle.lists.proofs.Library.{all-is}
use Rattle.types.specs.declared.Entry.{Entry}
use Rattle.rules.specs.WellFormed.{source_known}
use Rattle.net_formed.proofs.sources_known.Goals as goal

pub returns : goal.returns
returns c =
    all_from_yields_List (λ (x : Entry). source_known c.args.actors x.envelope) _ _ _ c.all.ensures.ran
    (YieldsList-from_slice c.args.entries.now cc) (λ x b q k. search (rules, tests))
    ∙ sym (all-is (λ (x : Entry). source_known c.args.actors x.envelope) c.args.entries.now)
