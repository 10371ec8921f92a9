-- The test is three parts. One that fails decides, and the last decides where those before it hold.
-- Assumes nothing.
use Rattle.std.proofs.Common.{◌≡◌, false, length, rules, sym, ◌∙◌}
use borrow.Author.Tests.{le-leb, lt-leb}
use Rattle.lists.proofs.Places.{length-mapped}
use Rattle.types.specs.Capacities.{most_entries}
use Rattle.net_formed.proofs.Laws.{told}
use Rattle.net_formed.proofs.net_ok.Goals as goal

pub returns-then-n-gt-MOST_ENTRIES : goal.returns-then-n-gt-MOST_ENTRIES
returns-then-n-gt-MOST_ENTRIES c =
    let a = c.args in
    let room : length a.n.entries ≡ most_entries = search (rules, length-mapped) in
    let told = told a.n room a.actors false (rw (lt-leb _ _ c.if-n-gt-MOST_ENTRIES.true)) in
    record { value = told.0; laid = told.1 }

pub returns-then-all_zero : goal.returns-then-all_zero
returns-then-all_zero c =
    let a = c.args in
    let room : length a.n.entries ≡ most_entries = search (rules, length-mapped) in
    let split = c.split_at.ensures in
    let zero = rw split.back at (sym c.all_zero.ensures ∙ c.if-all_zero.true) in
    let told = told a.n room a.actors c.parts_ok.result (rw (le-leb _ _ c.if-n-gt-MOST_ENTRIES.false, zero) (rw split.front at (sym c.parts_ok.ensures))) in
    record { value = told.0; laid = told.1 }

pub returns-else-all_zero : goal.returns-else-all_zero
returns-else-all_zero c =
    let a = c.args in
    let room : length a.n.entries ≡ most_entries = search (rules, length-mapped) in
    let zero = rw c.split_at.ensures.back at (sym c.all_zero.ensures ∙ c.if-all_zero.false) in
    let told = told a.n room a.actors c.all_zero.result (rw (le-leb _ _ c.if-n-gt-MOST_ENTRIES.false, zero) (sym c.if-all_zero.false)) in
    record { value = told.0; laid = told.1 }
