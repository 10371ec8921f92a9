-- What a search by halves passes over, and what it asks.
-- Assumes nothing.
use Rattle.std.specs.Prelude.{ℕ, ◌<◌, ◌≡◌, Bool, true, List, [], get_or, leb, ltb}
use Rattle.types.specs.Order.{is_less}
use Rattle.net_cells.specs.Cells.{cmp_cell, flow_of}

-- x stands before k; in a flow up to that of k; in a flow before it.
abbrev pub stands_before : List ℕ → List ℕ → Bool
stands_before k x = is_less (cmp_cell x k)

abbrev pub up_to_flow : List ℕ → List ℕ → Bool
up_to_flow k x = leb (flow_of x) (flow_of k)

abbrev pub before_flow : List ℕ → List ℕ → Bool
before_flow k x = ltb (flow_of x) (flow_of k)

-- Of the first `used`, none passes after one that fails.
pub record Once (p : List ℕ → Bool) (used : ℕ) (c : List (List ℕ)) : Type 0 where
  pub back : (i j : ℕ) → i < j → j < used → p (get_or c j []) ≡ true → p (get_or c i []) ≡ true
