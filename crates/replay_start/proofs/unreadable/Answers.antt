-- The system that it holds is the blank one.
-- Assumes nothing.
use Rattle.answers.specs.Answers.{answer_of}
use Rattle.replay_start.proofs.unreadable.Goals as goal

pub returns : goal.returns
unfolding answer_of
returns c = rw c.blank-s.ensures
