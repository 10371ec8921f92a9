-- What reading a record answers: its value with the place after it, or the place of the bad record.
-- Assumes nothing.
use Rattle.std.specs.Prelude.{ℕ, ◌+◌, Bool, true, false, Option, Some, None, Result, Ok, Err}
use Rattle.layout.specs.Form.{Reached, reached, stuck, bytes_for}
use Rattle.layout.specs.Read.{Reading, read, bad_at}
use Rattle.script_places.specs.declared.BadAt.{BadAt}

-- The end of a record at the place `at`, of n bits, if it is whole.
abbrev pub ending_of : ℕ → Bool → ℕ → Option ℕ
ending_of at true n = Some (at + bytes_for n)
ending_of at false n = None

-- A value as it is.
abbrev pub same : {A : Type 0} → A → A
same a = a

-- What reading found, its value as k gives it.
abbrev pub result_of : {A B : Type 0} → (A → B) → Reading A → Result (B × ℕ) BadAt
result_of k (read a xs p) = Ok (k a, p)
result_of k (bad_at p) = Err (record { 0 = p })

-- What following a form's fields found: the value as k gives it, and the bit after the last field.
abbrev pub part_of : {A B : Type 0} → (A → B) → Reached A → Option (B × ℕ)
part_of k (reached a n) = Some (k a, n)
part_of k stuck = None
