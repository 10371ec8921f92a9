-- What stands in a lent buffer afterwards, and how long an output can be.
-- Assumes nothing.
use Rattle.std.specs.Prelude.{ℕ, ◌+◌, ◌*◌, ◌≡◌, List, ◌++◌, length, drop, leb}
use Rattle.lists.specs.Lists.{choose}

-- The length of a text, and the text at the start of the buffer if it fits there; else the buffer as it was.
pub record Told (l out : List ℕ) (r : ℕ) (left : List ℕ) : Type 0 where
  pub size : r ≡ length l
  pub bytes : left ≡ choose (leb r (length out)) (l ++ drop r out) out

-- Of a script of so many bytes: no action has less than a byte, and no line of one more than 23.
abbrev pub longest : ℕ → ℕ
longest n = 160 + 23 * n
