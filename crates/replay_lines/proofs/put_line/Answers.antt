-- `put_line` meets its contract: the word, then the numbers.
-- Assumes nothing.
use Rattle.rules.specs.Program.{spaced, line}
use Rattle.replay_lines.proofs.Laws.{room-first, room-then, piece_then, room-line, line-told}
use Rattle.replay_lines.proofs.put_line.Goals as goal

pub put_word-end-requires : goal.put_word-end-requires
unfolding line
put_word-end-requires c = room-first c.args.word.now (spaced c.args.numbers.now) (room-line c.requires.room c.requires.short)

pub put_numbers-requires : goal.put_numbers-requires
unfolding line
put_numbers-requires c = room-then c.args.word.now _ (room-line c.requires.room c.requires.short) c.put_word-end.ensures

pub returns : goal.returns
unfolding line
returns c =
    let told = line-told (piece_then c.args.word.now _ c.requires.room.0 c.put_word-end.ensures c.put_numbers.ensures) c.requires.short in
    record { next = told.0; bytes = told.1; short = told.2 }
