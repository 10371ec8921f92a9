-- What a change leaves of rows of which the first are used.
-- Assumes nothing.
use Rattle.std.specs.Prelude.{ℕ, ◌≡◌, List, length, take}

-- What a change leaves of cs: l in the first `used` places, and the room.
abbrev pub Moved : ℕ → List (List ℕ) → List (List ℕ) → List (List ℕ) → Type 0
Moved used l cs cs' = (take used cs' ≡ l) × (length cs' ≡ length cs)
