-- What the search leaves open of `lay_out_actors`.
use Prim.Native.Nat.{◌<◌}
use mathlib.Core.Path.{◌≡◌}
use lib.ListN.{length}
use Rattle.lists.proofs.Places.{length-mapped}
use Rattle.types.specs.Capacities.{most_actors}
use Rattle.sys_all_rows.proofs.Lays.{actors-none, actors-next}
use borrow.Author.Rules.{rules}
use native.Mathlib.Omega.{arith}
use Rattle.sys_all_rows.proofs.lay_out_actors.Goals as goal

pub loop-i-init : goal.loop-i-init
loop-i-init c = actors-none c.args.actors _ c.requires.1

pub lay_out-requires : goal.lay_out-requires
lay_out-requires c = c.requires.2 c.loop-i.i (omega arith) _

pub loop-i-preserved : goal.loop-i-preserved
loop-i-preserved c =
    let l = c.loop-i in
    let room : length c.args.actors ≡ most_actors = search (rules, length-mapped) in
    let w : l.i < most_actors = omega arith in
    actors-next c.args.actors room l.i l.rows l.invariant w _ c.lay_out.new.rows c.lay_out.ensures
