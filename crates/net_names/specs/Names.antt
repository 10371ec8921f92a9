-- What a name names, with its number; what becomes of a buffer into which a name is written, by a kind or by its place in the list.
-- Assumes nothing.
use Rattle.std.specs.Prelude.{ℕ, Option, Some, None, Result, Ok, Err, List, [], ◌∷◌, ◌++◌, length, drop, leb}
use Rattle.lists.specs.Lists.{choose}
use Rattle.types.specs.declared.Kind.{Kind}
use Rattle.rules.specs.Outcome.{Outcome, done, refused}
use Rattle.net_names.specs.declared.UnknownName.{UnknownName}
use Rattle.net_names.specs.declared.NoRoom.{NoRoom}

-- The answer of an outcome. `kind_named` refuses as 12 alone.
abbrev pub named_of : Outcome Kind → Result Kind UnknownName
named_of (done k) = Ok k
named_of (refused n) = Err (record {})

-- The number and the values: of an outcome, and of the answer.
abbrev pub outcome_number : Outcome Kind → ℕ
outcome_number (done k) = 0
outcome_number (refused n) = n

abbrev pub outcome_kinds : Outcome Kind → List Kind
outcome_kinds (done k) = k ∷ []
outcome_kinds (refused n) = []

abbrev pub named_number : Result Kind UnknownName → ℕ
named_number (Ok k) = 0
named_number (Err e) = 12

abbrev pub named_kinds : Result Kind UnknownName → List Kind
named_kinds (Ok k) = k ∷ []
named_kinds (Err e) = []

-- A name and the buffer that it is written into: the answer, and the buffer after it.
unfoldable pub written_as : List ℕ → List ℕ → Result ℕ NoRoom
written_as name out = choose (leb (length name) (length out)) (Ok (length name)) (Err (record {}))

unfoldable pub left_on : List ℕ → List ℕ → List ℕ
left_on name out = choose (leb (length name) (length out)) (name ++ drop (length name) out) out

-- The first of the names that are left, and the buffer that it is written into.
abbrev pub first_listed : List (List ℕ) → List ℕ → Option (Result ℕ NoRoom)
first_listed [] out = None
first_listed (name ∷ more) out = Some (written_as name out)

abbrev pub first_left : List (List ℕ) → List ℕ → List ℕ
first_left [] out = out
first_left (name ∷ more) out = left_on name out
