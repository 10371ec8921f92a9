-- What the search leaves open of `take_in`.
use mathlib.Core.Path.{ap, ◌∙◌}
use lib.ListN.{length}
use Rattle.link_tables.specs.Rows.{orders}
use Rattle.sys_moves.proofs.Taken.{noticed-laid, noticed-places, noticed-numbers, noticed-settled}
use Rattle.sys_moves.proofs.take_in.Goals as goal

pub take_number-requires : goal.take_number-requires
take_number-requires c = (c.requires.1.room, c.requires.3, c.requires.1.tail)

pub settle-requires : goal.settle-requires
settle-requires c =
    let a = c.args in
    let os = orders a.row.now a.source a.value in
    let w1 = c.take_number.new.live in (
      c.requires.0,
      noticed-laid a.source a.number os a.actor.now.live a.actor.now.pend c.requires.1 w1 c.take_number.ensures,
      c.requires.2,
      noticed-places a.source a.number os a.actor.now.live a.actor.now.pend c.requires.1 w1 c.take_number.ensures c.requires.4,
      noticed-numbers a.source a.number os a.actor.now.live a.actor.now.pend c.requires.1 w1 c.take_number.ensures c.requires.5,
    )

pub store-requires : goal.store-requires
store-requires c = (
  c.settle.ensures.live.laid,
  ap length c.settle.ensures.stored ∙ c.requires.6,
)

pub returns : goal.returns
returns c =
    let a = c.args in
    let os = orders a.row.now a.source a.value in
    let w1 = c.take_number.new.live in
    let z = c.settle in
    let k = c.store in (
      rw (k.ensures.live, k.ensures.pend) (noticed-settled a.source a.number os a.actor.now.live a.actor.now.pend c.requires.1 w1
          c.take_number.ensures a.timers a.state z.new.self.live z.new.self.pend z.ensures.live),
      rw (k.ensures.live, k.ensures.pend) k.ensures.kept,
    )
