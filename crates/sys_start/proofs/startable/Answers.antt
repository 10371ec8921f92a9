-- `startable` meets its contract. The counts first; then the walks, which they bound.
-- Assumes nothing.
use mathlib.Core.Path.{◌≡◌, sym, ◌∙◌}
use lib.ListN.{length}
use borrow.Author.Rules.{rules}
use Rattle.types.specs.Capacities.{most_actors}
use Rattle.lists.proofs.Places.{length-mapped}
use Rattle.sys_start.proofs.Tests.{fine-tests}
use Rattle.sys_start.proofs.startable.Goals as goal

pub returns-then-not-counts_fit : goal.returns-then-not-counts_fit
returns-then-not-counts_fit c =
    let a = c.args in
    let n : length a.tables ≡ most_actors = search (rules, length-mapped) in
    sym (fine-tests a.kind a.count a.tables a.given n ∙ rw (sym c.counts_fit.ensures ∙ c.if-not-counts_fit.true))

pub returns-then-tables_sound : goal.returns-then-tables_sound
returns-then-tables_sound c =
    let a = c.args in
    let n : length a.tables ≡ most_actors = search (rules, length-mapped) in
    c.sources_known.ensures
    ∙ sym (fine-tests a.kind a.count a.tables a.given n ∙ rw (
      sym c.counts_fit.ensures ∙ c.if-not-counts_fit.false,
      sym c.tables_sound.ensures ∙ c.if-tables_sound.true,
    ))

pub returns-else-tables_sound : goal.returns-else-tables_sound
returns-else-tables_sound c =
    let a = c.args in
    let n : length a.tables ≡ most_actors = search (rules, length-mapped) in
    c.if-tables_sound.false
    ∙ sym (fine-tests a.kind a.count a.tables a.given n ∙ rw (
      sym c.counts_fit.ensures ∙ c.if-not-counts_fit.false,
      sym c.tables_sound.ensures ∙ c.if-tables_sound.false,
    ))
