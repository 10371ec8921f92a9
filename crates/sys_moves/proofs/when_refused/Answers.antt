-- What the search leaves open of `when_refused`.
use Rattle.types.specs.declared.Kind.TheVariants.{Ordered, UnorderedDuplicating, UnorderedNonDuplicating}
use Rattle.lists.specs.Lists.{choose}
use Rattle.rules.specs.Network.{is_duplicating}
use Rattle.sys_moves.proofs.Taken.{is-there, not_there}
use Rattle.sys_moves.proofs.when_refused.Goals as goal

pub returns-then-at-net : goal.returns-then-at-net
returns-then-at-net c =
    let n = c.args.net.now in
    let f = c.equal_place-at in
    is-there n.kind c.args.e n.cells n.used n.len c.requires c.args.why f.result f.ensures c.if-at-net.true

pub returns-in-Ordered : goal.returns-in-Ordered
unfolding choose is_duplicating
returns-in-Ordered c =
    let n = c.args.net.now in
    let f = c.equal_place-at in
    not_there n.kind c.args.e n.cells n.used n.len c.requires c.args.why f.result f.ensures c.if-at-net.false Ordered c.in-Ordered.is

pub returns-in-UnorderedDuplicating : goal.returns-in-UnorderedDuplicating
unfolding choose is_duplicating
returns-in-UnorderedDuplicating c =
    let n = c.args.net.now in
    let f = c.equal_place-at in
    not_there n.kind c.args.e n.cells n.used n.len c.requires c.args.why f.result f.ensures c.if-at-net.false UnorderedDuplicating
    c.in-UnorderedDuplicating.is

pub returns-in-UnorderedNonDuplicating : goal.returns-in-UnorderedNonDuplicating
unfolding choose is_duplicating
returns-in-UnorderedNonDuplicating c =
    let n = c.args.net.now in
    let f = c.equal_place-at in
    not_there n.kind c.args.e n.cells n.used n.len c.requires c.args.why f.result f.ensures c.if-at-net.false UnorderedNonDuplicating
    c.in-UnorderedNonDuplicating.is
