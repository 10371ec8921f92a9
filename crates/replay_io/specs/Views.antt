-- What the contracts of the output's buffer cite.
-- Assumes nothing.
use Rattle.std.specs.Prelude.{ℕ, ◌≡◌, List, length}

-- How long a list is. A record, and not the equation itself: that would have the prover count a long list element by element.
pub record Sized (n : ℕ) (l : List ℕ) : Type 0 where
  pub size : n ≡ length l
