-- What the search leaves open of `lay_out_tables`.
use Prim.Native.Nat.{◌<◌}
use mathlib.Core.Path.{◌≡◌}
use lib.ListN.{length}
use Rattle.lists.proofs.Places.{length-mapped}
use Rattle.types.specs.Capacities.{most_actors}
use Rattle.sys_all_rows.proofs.Lays.{tables-none, tables-next}
use borrow.Author.Rules.{rules}
use native.Mathlib.Omega.{arith}
use Rattle.sys_all_rows.proofs.lay_out_tables.Goals as goal

pub loop-i-init : goal.loop-i-init
loop-i-init c = tables-none c.args.tables _ c.requires.1

pub rows_of-requires : goal.rows_of-requires
rows_of-requires c = c.requires.2 c.loop-i.i (omega arith) _

pub loop-i-preserved : goal.loop-i-preserved
loop-i-preserved c =
    let l = c.loop-i in
    let room : length c.args.tables ≡ most_actors = search (rules, length-mapped) in
    let w : l.i < most_actors = omega arith in
    let e = c.rows_of.ensures in
    tables-next c.args.tables room l.i l.rows l.invariant w _ _ e.0 e.1
