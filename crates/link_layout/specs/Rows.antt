-- The rows that a durable part is laid out as: what it does not use is zero. And rows that one can be read off.
-- Assumes nothing.
use Rattle.std.specs.Prelude.{ℕ, ◌-◌, ◌≤◌, ◌≡◌, List, [], ◌∷◌, map, length, get_or, Option, Some, None}
use Rattle.lists.specs.Lists.{pad}
use Rattle.types.specs.Capacities.{most_pending, most_actors}
use Rattle.types.specs.declared.Number.{Number}
use Rattle.types.specs.declared.Pending.{Pending}
use Rattle.rules.specs.Link as rules
use Rattle.link_rows.specs.Rows.{row_size, HeadLaid}

-- ---- a pending record
abbrev pub record_of : Pending → List ℕ
record_of q = q.number.0 ∷ q.dst.0 ∷ q.payload.0 ∷ 0 ∷ []

abbrev pub no_record : List ℕ
no_record = 0 ∷ 0 ∷ 0 ∷ 0 ∷ []

abbrev pub records_of : rules.Durable → List (List ℕ)
records_of d = pad most_pending no_record (map record_of d.pending)

-- ---- the row
abbrev pub word_of : Number → ℕ
word_of n = n.0

-- The numbers last taken, from place 8 on.
abbrev pub taken_of : List Number → List ℕ
taken_of l = 0 ∷ 0 ∷ 0 ∷ 0 ∷ 0 ∷ 0 ∷ 0 ∷ 0 ∷ pad (row_size - 8) 0 (map word_of l)

abbrev pub saves_of : Option ℕ → ℕ
saves_of None = 0
saves_of (Some v) = 1

abbrev pub value_of : Option ℕ → ℕ
value_of None = 0
value_of (Some v) = v

-- With what stands at places 5, 6 and 7, which the durable part does not read.
abbrev pub row_with : rules.Durable → ℕ → ℕ → ℕ → List ℕ
row_with d five six seven =
    d.next.0 ∷ length d.pending ∷ saves_of d.inner ∷ value_of d.inner ∷ length d.taken ∷ five ∷ six ∷ seven
    ∷ pad (row_size - 8) 0 (map word_of d.taken)

abbrev pub row_of : rules.Durable → List ℕ
row_of d = row_with d 0 0 0

-- Rows that a durable part can be read off: the counts fit, and so do the words up to place 3.
pub record Readable (w : List ℕ) (p : List (List ℕ)) : Type 0 where
  pub room : length w ≡ row_size
  pub places : length p ≡ most_pending
  pub pending : get_or w 1 0 ≤ most_pending
  pub sources : get_or w 4 0 ≤ most_actors
  pub head : HeadLaid w p
