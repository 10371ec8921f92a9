-- How many answers of each sort there were, and what is left to write: a line for each action that is left, and the totals of all.
-- Assumes nothing.
use Prim.Native.Nat.{ℕ, zero, suc, ◌+◌}
use native.Mathlib.Omega.{arith}
use mathlib.Core.Path.{◌≡◌, refl, ap, ◌∙◌}
use mathlib.Core.List.{List, [], ◌∷◌, ◌++◌, append_assoc}
use Rattle.types.specs.declared.Action.{Action}
use Rattle.rules.specs.Outcome.{base}
use Rattle.rules.specs.System.{Sys}
use Rattle.rules.specs.Run.{step, answer, after, answers, Totals, counted, totals}
use Rattle.rules.specs.Program.{answer_line, size, action_lines, done_line, line, done_word}
use Rattle.replay_run.specs.declared.Tally.{Tally}
use Rattle.replay_run.specs.Views.{run_text, tallied}

-- ---- sums of totals
abbrev plus : Totals → Totals → Totals
plus t u = record {
  next_count = t.next_count + u.next_count;
  ignored_count = t.ignored_count + u.ignored_count;
  refused_count = t.refused_count + u.refused_count;
}

plus-counted : (k : ℕ) (t u : Totals) → plus t (counted k u) ≡ plus (counted k t) u
unfolding counted
plus-counted zero t u = let e : t.next_count + suc u.next_count ≡ suc t.next_count + u.next_count = omega arith in
    λ i. record { next_count = e i; ignored_count = t.ignored_count + u.ignored_count; refused_count = t.refused_count + u.refused_count }
plus-counted (suc zero) t u = let e : t.ignored_count + suc u.ignored_count ≡ suc t.ignored_count + u.ignored_count = omega arith in
    λ i. record { next_count = t.next_count + u.next_count; ignored_count = e i; refused_count = t.refused_count + u.refused_count }
plus-counted (suc (suc k)) t u = let e : t.refused_count + suc u.refused_count ≡ suc t.refused_count + u.refused_count = omega arith in
    λ i. record { next_count = t.next_count + u.next_count; ignored_count = t.ignored_count + u.ignored_count; refused_count = e i }

plus_none : (t : Totals) → plus t (totals []) ≡ t
unfolding totals
plus_none t = let a : t.next_count + 0 ≡ t.next_count = omega arith in let b : t.ignored_count + 0 ≡ t.ignored_count = omega arith in
    let c : t.refused_count + 0 ≡ t.refused_count = omega arith in λ i. record { next_count = a i; ignored_count = b i; refused_count = c i }

none-plus : (t : Totals) → t ≡ plus (record { next_count = 0; ignored_count = 0; refused_count = 0 }) t
none-plus t = let a : t.next_count ≡ 0 + t.next_count = omega arith in let b : t.ignored_count ≡ 0 + t.ignored_count = omega arith in
    let c : t.refused_count ≡ 0 + t.refused_count = omega arith in λ i. record { next_count = a i; ignored_count = b i; refused_count = c i }

-- one more in all
pub sum-counted : (k : ℕ) (t : Tally) → (tallied k t).next + (tallied k t).ignored + (tallied k t).refused ≡ suc (t.next + t.ignored + t.refused)
unfolding counted
sum-counted zero t = omega arith
sum-counted (suc zero) t = omega arith
sum-counted (suc (suc k)) t = omega arith

pub tallied-none : (n : ℕ) (t : Tally) → n ≡ 0
    → ◌≡◌ {A = Tally} (record { next = t.next + 1; ignored = t.ignored; refused = t.refused }) (tallied n t)
unfolding counted
tallied-none n t e = let w : t.next + 1 ≡ suc t.next = omega arith in rw e (λ i. record { next = w i; ignored = t.ignored; refused = t.refused })

pub tallied-one : (n : ℕ) (t : Tally) → n ≡ 1
    → ◌≡◌ {A = Tally} (record { next = t.next; ignored = t.ignored + 1; refused = t.refused }) (tallied n t)
unfolding counted
tallied-one n t e = let w : t.ignored + 1 ≡ suc t.ignored = omega arith in rw e (λ i. record { next = t.next; ignored = w i; refused = t.refused })

pub tallied-more : (n : ℕ) (t : Tally) → (n ≡ 0 → ⊥) → (n ≡ 1 → ⊥)
    → ◌≡◌ {A = Tally} (record { next = t.next; ignored = t.ignored; refused = t.refused + 1 }) (tallied n t)
unfolding counted
tallied-more zero t e f = absurd (e refl)
tallied-more (suc zero) t e f = absurd (f refl)
tallied-more (suc (suc n)) t e f = let w : t.refused + 1 ≡ suc t.refused = omega arith in
    λ i. record { next = t.next; ignored = t.ignored; refused = w i }

-- ---- what is left to write
abbrev pub rest_text : Sys → Totals → List Action → List ℕ
rest_text m t l = action_lines base m l ++ done_line (plus t (totals (answers base m l)))

pub rest-start : (m : Sys) (l : List Action) → run_text m l ≡ rest_text m (record { next_count = 0; ignored_count = 0; refused_count = 0 }) l
unfolding run_text
rest-start m l = ap (λ (t : Totals). action_lines base m l ++ done_line t) (none-plus (totals (answers base m l)))

pub rest-next : (m : Sys) (t : Totals) (a : Action) (l : List Action)
    → rest_text m t (a ∷ l) ≡ answer_line (answer (step base m a)) (size (after m (step base m a)))
    ++ rest_text (after m (step base m a)) (counted (answer (step base m a)) t) l
unfolding action_lines answers totals
rest-next m t a l =
    let k = answer (step base m a) in
    let n = after m (step base m a) in
    append_assoc (answer_line k (size n)) (action_lines base n l) (done_line (plus t (counted k (totals (answers base n l)))))
    ∙ ap (λ (u : Totals). answer_line k (size n) ++ (action_lines base n l ++ done_line u)) (plus-counted k t (totals (answers base n l)))

pub rest_end : (m : Sys) (t : Totals) → rest_text m t [] ≡ line done_word (t.next_count ∷ t.ignored_count ∷ t.refused_count ∷ [])
unfolding action_lines answers done_line
rest_end m t = ap done_line (plus_none t)
