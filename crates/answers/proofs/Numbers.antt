-- The answers and their numbers, one to one.
-- Assumes nothing.
use Prim.Native.Nat.{ℕ, zero, suc, ◌+◌, ◌≤◌, ◌<◌}
use native.Mathlib.Omega.{arith}
use mathlib.Core.Path.{◌≡◌, refl, sym, ◌∙◌, ap}
use mathlib.Core.Bool.{Bool, true, false}
use mathlib.Core.List.{List, [], ◌∷◌}
use lib.ListN.{length, get_or, get_or-eq_default}
use lib.Dec.{leb}
use borrow.Author.Tests.{leb-true, leb-false}
use Rattle.std.specs.Prelude.{Ok, Err}
use Rattle.answers.specs.declared.Refusal.TheVariants as refusal
use Rattle.answers.specs.Answers.{Answer, Done, UnknownName, answer_number, all_answers, answer_of}

pub number-answer : (a : Answer) → answer_of (answer_number a) ≡ a
unfolding answer_of
number-answer (Ok tt) = refl
number-answer (Err refusal.Ignored) = refl
number-answer (Err refusal.OutOfRange) = refl
number-answer (Err refusal.Absent) = refl
number-answer (Err refusal.Live) = refl
number-answer (Err refusal.NotSet) = refl
number-answer (Err refusal.NumbersUsedUp) = refl
number-answer (Err refusal.PendingFull) = refl
number-answer (Err refusal.NetworkFull) = refl
number-answer (Err refusal.NotWellFormed) = refl
number-answer (Err refusal.StartRefused) = refl
number-answer (Err refusal.Unreadable) = refl
number-answer (Err refusal.UnknownName) = refl

-- No two answers have one number.
pub number-inj : (a b : Answer) → answer_number a ≡ answer_number b → a ≡ b
number-inj a b e = sym (number-answer a) ∙ ap answer_of e ∙ number-answer b

-- ---- the other way round: a number in use is the number of its answer
-- These answers have the numbers from k on.
abbrev Numbered : ℕ → List Answer → Type 0
Numbered k [] = Unit {0}
Numbered k (a ∷ l) = (answer_number a ≡ k) × Numbered (suc k) l

numbered-at : (k : ℕ) (l : List Answer) → Numbered k l → (n : ℕ) → n < length l → answer_number (get_or l n UnknownName) ≡ k + n
numbered-at k [] h n lt = absurd (omega arith)
numbered-at k (a ∷ l) h zero lt = let z = h.0 in omega arith
numbered-at k (a ∷ l) h (suc n) lt = let z = numbered-at (suc k) l h.1 n (omega arith) in omega arith

in_order : Numbered 0 all_answers
in_order = (refl, (refl, (refl, (refl, (refl, (refl, (refl, (refl, (refl, (refl, (refl, (refl, (refl, tt)))))))))))))

pub answer-number : (n : ℕ) → n ≤ 12 → answer_number (answer_of n) ≡ n
unfolding answer_of
answer-number n h = let z = numbered-at 0 all_answers in_order n (omega arith) in omega arith

-- Only 0 is told as Done: a number that no answer has never is.
pub done-is-0 : (n : ℕ) → answer_of n ≡ Done → n ≡ 0
unfolding answer_of
done-is-0 n e = go (leb n 12) refl
  where
    go : (b : Bool) → leb n 12 ≡ b → n ≡ 0
    go true h = let y = leb-true n 12 h in let z = answer-number n y in let w = ap answer_number e in omega arith
    go false h =
        let y = leb-false n 12 h in
        let z : UnknownName ≡ Done = sym (get_or-eq_default all_answers UnknownName y) ∙ e in
        let w : ◌≡◌ {A = ℕ} 12 0 = ap answer_number z in
        absurd (omega arith)
