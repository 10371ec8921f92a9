-- The answer that says whether a script, or a part of it, can be read.
-- Assumes nothing.
use Rattle.std.specs.Prelude.{[], ◌∷◌, Result, Ok, Err}
use Rattle.answers.specs.Answers.{answer_number}
use Rattle.answers.specs.Answers.{Done, Unreadable}
use Rattle.layout.specs.Read.{Reading, read, bad_at}
use Rattle.rules.specs.Script.{Script}
use Rattle.script_places.specs.declared.BadAt.{BadAt}
use Rattle.script_places.specs.Says.{Said, said}

abbrev pub layout_of : {A : Type 0} → Reading A → Result Unit BadAt
layout_of (read a xs p) = Ok tt
layout_of (bad_at p) = Err (record { 0 = p })

-- The number and values: nothing is told of a script that can be read but that it can; 11 has the place of the first bad record.
abbrev pub check_says : Reading Script → Said Script
check_says (read a xs p) = said (answer_number Done) [] []
check_says (bad_at p) = said (answer_number Unreadable) [] (p ∷ [])

abbrev pub layout_says : Result Unit BadAt → Said Script
layout_says (Ok u) = said 0 [] []
layout_says (Err e) = said 11 [] (e.0 ∷ [])
