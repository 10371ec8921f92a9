-- `answer_line` meets its contract: a number in the word's place, then the other.
-- Assumes nothing.
use native.Mathlib.Omega.{arith}
use Prim.Native.Nat.{ℕ, ◌≤◌}
use mathlib.Core.List.{[], ◌∷◌}
use lib.ListN.{length}
use mir.Syntax.{w64}
use mir.Val as val
use Rattle.rules.specs.Program.{decimal, spaced, line, answer_line}
use Rattle.replay_decimals.proofs.Laws.{length-decimal}
use Rattle.replay_lines.proofs.Laws.{room-first, room-then, piece_then, length-line, room-line, line-told}
use Rattle.replay_lines.proofs.answer_line.Goals as goal

length-answer : (m n : ℕ) → val.Fits w64 m → val.Fits w64 n → length (answer_line m n) ≤ 80
unfolding answer_line
length-answer m n h k = length-line (decimal m) (n ∷ []) (k, tt) (omega (arith, length-decimal m (omega arith)))

pub put_decimal-end-requires : goal.put_decimal-end-requires
unfolding answer_line line
put_decimal-end-requires c =
    room-first (decimal _) (spaced (c.args.len ∷ [])) (room-line c.requires (length-answer _ _ c.ranges.answer c.ranges.len))

pub put_numbers-requires : goal.put_numbers-requires
unfolding answer_line line
put_numbers-requires c =
    room-then (decimal _) _ (room-line c.requires (length-answer _ _ c.ranges.answer c.ranges.len)) c.put_decimal-end.ensures

pub returns : goal.returns
unfolding answer_line line
returns c =
    let told = (line-told (piece_then (decimal _) _ c.requires.0 c.put_decimal-end.ensures
    c.put_numbers.ensures) (length-answer _ _ c.ranges.answer c.ranges.len)) in
    record { next = told.0; bytes = told.1; short = told.2 }
