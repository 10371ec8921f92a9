-- The number of an answer and its values.
-- Assumes nothing.
use Rattle.std.specs.Prelude.{ℕ, List, [], ◌∷◌, Result, Ok, Err}
use Rattle.answers.specs.Answers.{answer_number}
use Rattle.answers.specs.Answers.{Done, Unreadable}
use Rattle.layout.specs.Read.{Reading, read, bad_at}
use Rattle.script_places.specs.declared.BadAt.{BadAt}

-- `said number found places`: the answer's number; what was read, if anything was; the byte places that it gives.
pub data Said (A : Type 0) : Type 0 where
  said : ℕ → List A → List ℕ → Said A

-- What reading found: the value with the place after it, or 11 with the place of the first bad record.
abbrev pub reading_says : {A : Type 0} → Reading A → Said A
reading_says (read a xs p) = said (answer_number Done) (a ∷ []) (p ∷ [])
reading_says (bad_at p) = said (answer_number Unreadable) [] (p ∷ [])

-- The same of an answer, of which `back` is the value that was read.
abbrev pub result_says : {A B : Type 0} → (B → A) → Result (B × ℕ) BadAt → Said A
result_says back (Ok (b, p)) = said 0 (back b ∷ []) (p ∷ [])
result_says back (Err e) = said 11 [] (e.0 ∷ [])
