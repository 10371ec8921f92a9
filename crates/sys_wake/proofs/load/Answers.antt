-- What the search leaves open of `load`.
use mathlib.Core.Path.{◌≡◌, refl}
use lib.ListN.{length}
use Rattle.types.specs.Capacities.{most_pending}
use Rattle.sys_wake.proofs.Loads.{loaded-fresh, loaded-stored}
use borrow.Author.Rules.{rules}
use Rattle.sys_wake.proofs.load.Goals as goal

pub returns-then-actor-eq0 : goal.returns-then-actor-eq0
returns-then-actor-eq0 c =
    let a = c.args in (
      rw (c.put_marks.ensures, c.fresh_row-actor.ensures)
          (loaded-fresh a.actor.now.live a.actor.now.kept a.actor.now.pend a.actor.now.stored c.requires.0 c.requires.1 c.if-actor-eq0.true),
      refl,
      refl,
    )

pub returns : goal.returns
returns c =
    let a = c.args in
    let p' = c.copy_rows.new.to in
    let places : length p' ≡ most_pending = search (rules, c.requires.0.places) in (
      rw c.put_marks-2.ensures
          (loaded-stored a.actor.now.live a.actor.now.kept a.actor.now.pend a.actor.now.stored c.requires.0 c.requires.1 p' c.copy_rows.ensures places
          c.if-actor-eq0.false),
      refl,
      refl,
    )
