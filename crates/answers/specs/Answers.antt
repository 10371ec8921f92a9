-- The answers' numbers.
use Rattle.std.specs.Prelude.{ℕ, List, [], ◌∷◌, Bool, get_or, eqb, Result, Ok, Err}
use Rattle.answers.specs.declared.Refusal.{Refusal}
use Rattle.answers.specs.declared.Refusal.TheVariants as refusal

-- Done, or a refusal.
abbrev pub Answer : Type 0
Answer = Result (Unit {0}) Refusal

-- The answers by their names.
abbrev pub Done : Answer
Done = Ok tt

abbrev pub Ignored : Answer
Ignored = Err refusal.Ignored

abbrev pub OutOfRange : Answer
OutOfRange = Err refusal.OutOfRange

abbrev pub Absent : Answer
Absent = Err refusal.Absent

abbrev pub Live : Answer
Live = Err refusal.Live

abbrev pub NotSet : Answer
NotSet = Err refusal.NotSet

abbrev pub NumbersUsedUp : Answer
NumbersUsedUp = Err refusal.NumbersUsedUp

abbrev pub PendingFull : Answer
PendingFull = Err refusal.PendingFull

abbrev pub NetworkFull : Answer
NetworkFull = Err refusal.NetworkFull

abbrev pub NotWellFormed : Answer
NotWellFormed = Err refusal.NotWellFormed

abbrev pub StartRefused : Answer
StartRefused = Err refusal.StartRefused

abbrev pub Unreadable : Answer
Unreadable = Err refusal.Unreadable

abbrev pub UnknownName : Answer
UnknownName = Err refusal.UnknownName

abbrev pub refusal_number : Refusal → ℕ
refusal_number refusal.Ignored = 1
refusal_number refusal.OutOfRange = 2
refusal_number refusal.Absent = 3
refusal_number refusal.Live = 4
refusal_number refusal.NotSet = 5
refusal_number refusal.NumbersUsedUp = 6
refusal_number refusal.PendingFull = 7
refusal_number refusal.NetworkFull = 8
refusal_number refusal.NotWellFormed = 9
refusal_number refusal.StartRefused = 10
refusal_number refusal.Unreadable = 11
refusal_number refusal.UnknownName = 12

abbrev pub answer_number : Answer → ℕ
answer_number (Ok u) = 0
answer_number (Err r) = refusal_number r

abbrev pub is_done : Answer → Bool
is_done a = eqb (answer_number a) 0

-- In the order of their numbers.
abbrev pub all_answers : List Answer
all_answers =
    Done ∷ Ignored ∷ OutOfRange ∷ Absent ∷ Live ∷ NotSet ∷ NumbersUsedUp ∷ PendingFull ∷ NetworkFull ∷ NotWellFormed ∷ StartRefused
    ∷ Unreadable
    ∷ UnknownName ∷ []

-- The answer with a number. What is no answer's number is told as a refusal that no step and no start gives, and so never as Done.
unfoldable pub answer_of : ℕ → Answer
answer_of n = get_or all_answers n UnknownName
