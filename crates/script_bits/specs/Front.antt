-- The first 128 bits of some bytes, as two words.
-- Assumes nothing.
use Rattle.std.specs.Prelude.{ℕ, ◌≡◌, List}
use Rattle.layout.specs.Bits.{field_at}

-- Past the end of the bytes every bit is 0, so that any bytes have such words.
pub record Front (xs : List ℕ) (w v : ℕ) : Type 0 where
  pub first : w ≡ field_at xs 0 64
  pub second : v ≡ field_at xs 64 64

-- The field that is cut out of the words: that of any bytes whose front they are.
abbrev pub Cuts : ℕ → ℕ → ℕ → ℕ → ℕ → Type 0
Cuts w v at width r = (xs : List ℕ) → Front xs w v → r ≡ field_at xs at width
