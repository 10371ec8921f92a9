-- A bad layout is told by its place; of a good one the run is told.
use mathlib.Core.Path.{sym}
use Rattle.replay_script.proofs.Laws.{told-bad}
use Rattle.replay_script.proofs.replay.Goals as goal

pub put_run-requires : goal.put_run-requires
put_run-requires c = sym c.in-Ok.ensures.value

pub returns-in-Err : goal.returns-in-Err
returns-in-Err c =
    let t = told-bad c.args.script.now _ (sym c.in-Err.ensures.value) c.put_bad.ensures in record {
      size = t.size;
      bytes = t.bytes;
    }
