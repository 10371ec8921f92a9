-- A piece of text put into a lent buffer from a place on. With w false it is only measured, and the buffer stays.
-- Assumes nothing.
use Rattle.std.specs.Prelude.{ℕ, ◌+◌, ◌≤◌, Bool, true, ◌≡◌, List, ◌++◌, length, take, drop}
use Rattle.lists.specs.Lists.{choose}

-- The bytes l from the place `at` on, and the rest as it was; or all of it as it was.
unfoldable pub put : Bool → ℕ → List ℕ → List ℕ → List ℕ
put w at l out = choose w (take at out ++ (l ++ drop (at + length l) out)) out

-- What is only measured needs no room.
abbrev pub Fits : Bool → ℕ → List ℕ → List ℕ → Type 0
Fits w at l out = w ≡ true → at + length l ≤ length out

-- What the code of a piece asks. The limit is on the end, so that it splits as the piece does; it is twice that of a line's start.
pub record Room (w : Bool) (at : ℕ) (l out : List ℕ) : Type 0 where
  pub fits : Fits w at l out
  pub small : at + length l ≤ 8589934592

-- What the code of a piece answers, and leaves.
pub record Piece (w : Bool) (at : ℕ) (l out : List ℕ) (end : ℕ) (left : List ℕ) : Type 0 where
  pub next : end ≡ at + length l
  pub bytes : left ≡ put w at l out
