-- Each one's count is tested.
-- Assumes nothing.
use Rattle.std.proofs.Common.{rules, sym, ◌∙◌}
use Rattle.std.proofs.lemmas.Iterator.{YieldsList-from_slice}
use Rattle.std.proofs.lemmas.Iterator.Search.{all_from_yields_List}
use borrow.Author.Tests.{tests}
use Rattle.lists.proofs.Library.{all-is}
use Rattle.types.specs.declared.Entry.{Entry}
use Rattle.rules.specs.Outcome.{base}
use Rattle.rules.specs.WellFormed.{count_ok}
use Rattle.net_formed.proofs.counts_ok.Goals as goal

pub returns : goal.returns
returns c =
    all_from_yields_List (λ (x : Entry). count_ok base.room.copies c.args.kind x.count) _ _ _ c.all.ensures.ran
    (YieldsList-from_slice c.args.entries.now cc) (λ x b q k. search (rules, tests))
    ∙ sym (all-is (λ (x : Entry). count_ok base.room.copies c.args.kind x.count) c.args.entries.now)
