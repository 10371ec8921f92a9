-- The system is laid out as rows, which are played on.
use mathlib.Core.Path.{refl}
use Rattle.sys_all_rows.proofs.Opens.{few, layable, table-ok}
use Rattle.replay_run.proofs.Laws.{net-fits}
use Rattle.replay_run.proofs.Opens.{plays, writes}
use Rattle.replay_run.proofs.run.Goals as goal

pub len-requires : goal.len-requires
len-requires c = net-fits _ c.requires.ready

pub cells_of-requires : goal.cells_of-requires
cells_of-requires c = net-fits _ c.requires.ready

pub lay_out_actors-requires : goal.lay_out_actors-requires
lay_out_actors-requires c =
    let r = c.requires.ready in
    (few c.args.s r.laid r.formed, refl, layable c.args.s r.laid r.formed)

pub lay_out_tables-requires : goal.lay_out_tables-requires
lay_out_tables-requires c =
    let r = c.requires.ready in
    (few c.args.s r.laid r.formed, refl, table-ok c.args.s r.laid r.formed)

pub play-requires : goal.play-requires
play-requires c =
    plays c.requires _ c.cells_of.ensures _ c.len.ensures _
    c.lay_out_actors.ensures _ c.lay_out_tables.ensures

pub returns : goal.returns
returns c =
    writes c.requires _ c.cells_of.ensures _ c.len.ensures _
    c.lay_out_actors.ensures _ c.lay_out_tables.ensures
    c.play.ensures
