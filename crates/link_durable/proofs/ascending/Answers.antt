-- What the search leaves open of `ascending`.
use Rattle.std.proofs.Common.{rules}
use borrow.Author.Tests.{tests}
use Rattle.std.proofs.lemmas.List.Sorted.{answers_always}
use Rattle.rules.specs.WellFormed.{by_number}
use Rattle.lists.proofs.Library.{chain-is}
use Rattle.link_durable.proofs.ascending.Goals as goal

pub returns : goal.returns
returns c = chain-is by_number _ _ (c.is_sorted_by.ensures.cases by_number (answers_always _ _ _ (λ f a r g h. search (rules, tests))))
