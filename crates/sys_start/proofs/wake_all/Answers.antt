-- What the search leaves open of `wake_all`.
use borrow.Author.Rules.{rules}
use native.Mathlib.Numerals.{add-one}
use mathlib.Core.Path.{◌≡◌, refl, sym, ◌∙◌}
use lib.ListN.{length, length-set}
use Rattle.types.specs.Capacities.{most_actors}
use Rattle.lists.specs.Lists.{pad}
use Rattle.lists.proofs.Places.{length-mapped}
use Rattle.net_network.proofs.Changes.{readable}
use Rattle.sys_formed.proofs.Outside.{no_table}
use native.Mathlib.Omega.{arith}
use Rattle.sys_moves.specs.Views.{sent_in}
use Rattle.sys_start.proofs.Wakes.{wakes-begin, table-fine, wakes-stop, wakes-go, wakes-end}
use Rattle.sys_start.proofs.wake_all.Goals as goal

pub loop-at-init : goal.loop-at-init
unfolding pad
loop-at-init c =
    let n : length c.args.tables ≡ most_actors = search (rules, length-mapped) in
    (refl, search rules, wakes-begin _ _ _ _ _ _ c.requires n _ (rw c.zero_actor-actors.ensures))

pub wake_one-woken-requires : goal.wake_one-woken-requires
wake_one-woken-requires c =
    let l = c.loop-at in
    let v = l.invariant in
    let n : length c.args.tables ≡ most_actors = search (rules, length-mapped) in (
      rw v.0 v.2.net,
      v.2.room,
      table-fine _ _ _ _ _ _ c.requires n l.net.cells l.net.used l.net.len l.actors l.at v.2 (omega arith) no_table,
    )

pub returns-then-not-is_done : goal.returns-then-not-is_done
returns-then-not-is_done c =
    let l = c.loop-at in
    let v = l.invariant in
    let g = c.wake_one-woken in
    let n : length c.args.tables ≡ most_actors = search (rules, length-mapped) in
    c.refused.ensures
    ∙ wakes-stop _ _ _ _ _ _ c.requires n l.net.cells l.net.used l.net.len l.actors l.at v.2 (omega arith) no_table
    (sent_in g.result.answer g.new.net) g.result.actor g.new.net.cells (rw v.0 at g.ensures.0)
    (sym c.is_done.ensures ∙ c.if-not-is_done.true)

pub loop-at-preserved : goal.loop-at-preserved
loop-at-preserved c =
    let l = c.loop-at in
    let v = l.invariant in
    let g = c.wake_one-woken in
    let n : length c.args.tables ≡ most_actors = search (rules, length-mapped) in (
      g.ensures.1 ∙ v.0,
      length-set l.actors l.at _ ∙ v.1,
      rw add-one (wakes-go _ _ _ _ _ _ c.requires n l.net.cells l.net.used l.net.len l.actors l.at v.2 (omega arith) no_table
          (sent_in g.result.answer g.new.net) g.result.actor g.new.net.cells (rw v.0 at g.ensures.0)
          (sym c.is_done.ensures ∙ c.if-not-is_done.false)),
    )

pub system_of-requires : goal.system_of-requires
system_of-requires c =
    let v = c.loop-at.invariant in
    (readable v.2.net v.2.room, c.requires.few)

pub returns : goal.returns
returns c =
    let l = c.loop-at in
    let v = l.invariant in
    let n : length c.args.tables ≡ most_actors = search (rules, length-mapped) in
    wakes-end _ _ _ _ _ _ c.requires n l.net.cells l.net.used l.net.len l.actors l.at v.2 (omega arith) (omega arith)
    c.system_of.result (rw v.0 at c.system_of.ensures)
