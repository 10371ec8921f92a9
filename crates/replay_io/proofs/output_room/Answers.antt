-- `replay_io::output_room` meets its contract. The length comes from a law, since the list is too long to be counted.
-- Assumes nothing.
use Rattle.std.proofs.Common.{ℕ, sym}
use Rattle.std.proofs.Math.ListN.{replicate, length-replicate}
use Rattle.replay_io.specs.Views.{Sized}
use Rattle.replay_io.proofs.output_room.Goals as goal

sized : (n a : ℕ) → Sized n (replicate n a)
sized n a = record { size = sym (length-replicate n a) }

pub returns : goal.returns
returns c = sized 1507488 0
