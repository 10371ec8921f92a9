-- Each entry is tested against the next.
-- Assumes nothing.
use Rattle.std.proofs.Common.{rules}
use Rattle.std.proofs.lemmas.Fn.{always_returns_same}
use borrow.Author.Tests.{tests}
use Rattle.lists.proofs.Library.{chain-is}
use Rattle.rules.specs.WellFormed.{in_order}
use Rattle.net_formed.proofs.in_order.Goals as goal

pub returns : goal.returns
returns c =
    chain-is (in_order c.args.kind) c.args.entries.now c.is_sorted_by.result
    (c.is_sorted_by.ensures.cases (in_order c.args.kind) (always_returns_same _ _ _ (λ a r f k. search (rules, tests))))
