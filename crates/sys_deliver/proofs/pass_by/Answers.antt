-- What the search leaves open of `pass_by`.
use mathlib.Core.Path.{refl}
use Rattle.sys_rows.proofs.Laws.{timers-small}
use Rattle.sys_moves.specs.Views.{rows_in}
use Rattle.sys_deliver.proofs.Passed.{passed-acted}
use borrow.Author.Rules.{rules}
use Rattle.sys_deliver.proofs.pass_by.Goals as goal

pub overflow_cast-timers : goal.overflow_cast-timers
overflow_cast-timers c = let a = c.args in let z = timers-small a.actor.now.live a.actor.now.pend c.requires.live in search rules

pub returns : goal.returns
returns c =
    let a = c.args in
    let x = rows_in a.net.now.cells a.actor.now in
    record {
      rows = passed-acted a.net.now.kind a.e a.number a.net.now.used a.net.now.len x c.requires c.ack_only-s.result c.ack_only-s.new.c c.ack_only-s.ensures;
      kind = refl;
    }
