-- What a start begins from, and the row that decides it.
-- Assumes nothing.
use Rattle.std.specs.Prelude.{ℕ, List, [], get_or, replicate, ltb, Option}
use Rattle.lists.specs.Lists.{choose}
use Rattle.rules.specs.Link.{Durable, fresh, durable_of}
use Rattle.link_tables.specs.Rows.{rules_in, first_of}
use Rattle.link_rows.specs.Rows.{durable_in, storage_in}
use Rattle.sys_rows.specs.Rows.{stored_in, Settled}

-- The durable part that a start begins from: what is stored, or the fresh one.
abbrev pub begun : List ℕ → List (List ℕ) → Durable
begun k q = durable_of fresh (stored_in (get_or k 5 0) (durable_in k q))

-- It is in the live rows. Mark and timers are those of before, and every start begins in state 0.
abbrev pub Loaded : List ℕ → List ℕ → List (List ℕ) → List ℕ → List (List ℕ) → Type 0
Loaded w k q w' p' = Settled (begun k q) (get_or w 6 0) 0 w w' p'

-- What the inner actor has saved.
abbrev pub saved_in : List ℕ → Option ℕ
saved_in w = storage_in (get_or w 2 0) (get_or w 3 0)

-- The row of the first rule that matches a start, or one of zeros, which does nothing and leads to state 0.
abbrev pub start_place : List (List ℕ) → ℕ → ℕ → ℕ → ℕ
start_place t rules event value = first_of event 0 value (rules_in t rules)

unfoldable pub start_row : List (List ℕ) → ℕ → ℕ → ℕ → List ℕ
start_row t rules event value = choose (ltb (start_place t rules event value) rules) (get_or t (start_place t rules event value) []) (replicate 16 0)
