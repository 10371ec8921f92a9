-- What the search leaves open of `numbers_ok`.
use Rattle.std.proofs.Common.{rules, ◌≡◌, sym, ◌∙◌}
use borrow.Author.Tests.{tests}
use Rattle.std.specs.List.{list_all}
use Rattle.std.proofs.lemmas.Iterator.{YieldsList-from_slice}
use Rattle.std.proofs.lemmas.Iterator.Search.{all_from_yields_List}
use Rattle.rules.specs.WellFormed.{pending_ok}
use Rattle.lists.proofs.Library.{all-is}
use Rattle.link_durable.proofs.numbers_ok.Goals as goal

pub returns : goal.returns
returns c =
    let e : c.all.result ≡ list_all (pending_ok c.args.next) c.args.pending.now =
    all_from_yields_List (pending_ok c.args.next) _ _ _ c.all.ensures.ran (YieldsList-from_slice c.args.pending.now c.iter.ensures.rest)
    (λ x b q k. search (rules, tests)) in
    e ∙ sym (all-is _ _)
