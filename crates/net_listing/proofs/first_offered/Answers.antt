-- The search over the places tests each as the definition does, and stops at the first that passes.
-- Assumes nothing.
use Rattle.std.proofs.Common.{◌≡◌, true, false, rules}
use Rattle.std.proofs.lemmas.Iterator.{first_from_Range}
use borrow.Author.Tests.{tests}
use Rattle.net_listing.specs.Listing.{shows}
use Rattle.net_listing.proofs.first_offered.Goals as goal

pub returns : goal.returns
returns c =
    let a = c.args in
    let found = first_from_Range _ _ _ c.find.result (λ k. shows a.kind a.entries.now k ≡ true) (λ k. shows a.kind a.entries.now k ≡ false) c.find.ensures.ran
    (λ x q k. search (rules, tests)) (λ x q k. search (rules, tests)) in
    found
