-- `replay_io::put_output` meets its contract: every output fits, so it stands in the buffer.
-- Assumes nothing.
use Rattle.std.proofs.Common.{arith}
use Rattle.replay_io.proofs.Room.{output-fits, put_all}
use Rattle.replay_io.proofs.put_output.Goals as goal

pub returns : goal.returns
returns c =
    let script = c.args.script.now in
    let fits = output-fits script (omega arith) in
    let all = put_all _ c.args.room.now _ _ (omega (arith, fits, c.requires.size)) c.replay.ensures.size c.replay.ensures.bytes in
    record { counts = all.0; bytes = all.1 }
