-- How long an output can be: a line of an action has at most 23 bytes, and an action at least one.
-- Assumes nothing.
use Prim.Native.Nat.{ℕ, zero, suc, ◌+◌, ◌*◌, ◌≤◌, ◌<◌}
use native.Mathlib.Omega.{arith}
use mathlib.Core.Path.{◌≡◌, refl, sym, ap, ◌∙◌, subst}
use mathlib.Core.Bool.{true}
use mathlib.Core.Logic.{◌⊎◌, inl, inr}
use mathlib.Core.List.{List, [], ◌∷◌, ◌++◌}
use lib.ListN.{length, drop, length-append}
use lib.Dec.{eqb, leb}
use borrow.Author.Tests.{eqb-true, leb-true}
use Rattle.lists.specs.Lists.{all}
use Rattle.lists.proofs.Members.{any-in, all_in}
use Rattle.rules.proofs.FormedNetwork.{len-most}
use Rattle.types.specs.declared.Action.{Action}
use Rattle.types.specs.Capacities.{most_bytes, most_entries}
use Rattle.types.specs.declared.Format.{Format}
use Rattle.layout.specs.Read.{read}
use Rattle.rules.specs.Outcome.{Outcome, done, refused, base}
use Rattle.rules.specs.Network.{len}
use Rattle.rules.specs.System.{Sys, Next}
use Rattle.rules.specs.Start.{blank, boot}
use Rattle.rules.specs.Run.{step, answer, after, answers, Totals, counted, totals}
use Rattle.rules.specs.WellFormed.{well_formed}
use Rattle.rules.specs.Script.{actions_from}
use Rattle.rules.specs.Program.{decimal, spaced, line, answer_line, size, action_lines, done_line, start_line, run_lines}
use Rattle.rules.proofs.Answers.{act-answers, formed-step, step_numbers, start_numbers, step_keeps}
use Rattle.rules.proofs.Laws.{Holds}
use Rattle.replay_decimals.proofs.Laws.{length-small, length-decimal}
use Rattle.net_network.specs.Views.{net_view, network_of}
use Rattle.script_check.proofs.Actions.{Coming, last, next, coming, span}
use Rattle.replay_lines.proofs.Laws.{length-line}
use Rattle.replay_script.specs.Views.{longest}
use Rattle.sys_system.specs.Views.{sys_view, system_of}
use Rattle.sys_system.proofs.Laws.{image-laid, system-back, net-ready}

-- ---- how many actions
pub fewer : (f : Format) (s : List ℕ) (at : ℕ) (l : List Action) {ys : List ℕ} {q : ℕ} → Coming f s at ys q l → at + length l ≤ length s
fewer f s at [] (last r h) = omega (arith, span f s at r h)
fewer f s at (a ∷ l) (next r h g) =
    let i = fewer f s r l (coming f s r g) in
    omega (arith, span f s at r h)

-- ---- the length of a network is small
size_small : (m : Sys) → well_formed base m ≡ true → size m < 18446744073709551616
unfolding size
size_small m w =
    let f : well_formed base (sys_view (system_of m)) ≡ true = rw (system-back m w) w in
    let n = net-ready (system_of m) (image-laid m w) f in
    let v : (net_view (network_of m.net)).entries ≡ m.net.entries = ap (λ (t : Sys). t.net.entries) (system-back m w) in
    let k = len-most (net_view (network_of m.net)).entries n.counts in
    let u : length m.net.entries ≤ most_entries = n.laid.fit in
    omega (arith, k, ap len v, ap length v)

-- ---- a line of an action
answer-small : (m : Sys) (a : Action) → well_formed base m ≡ true → answer (step base m a) < 10
unfolding all
answer-small m a w = subst (λ (o : Outcome Next). answer o < 10) (sym (formed-step base m a w)) (go (act-answers base m a))
  where
    go : {n : ℕ} → (n ≡ 0) ⊎ (step_numbers n ≡ true) → n < 10
    go (inl e) = omega arith
    go {n} (inr e) =
        let x = any-in (eqb n) (1 ∷ 2 ∷ 3 ∷ 4 ∷ 5 ∷ 6 ∷ 7 ∷ 8 ∷ []) e in
        let y = all_in (λ k. leb k 9) (1 ∷ 2 ∷ 3 ∷ 4 ∷ 5 ∷ 6 ∷ 7 ∷ 8 ∷ []) refl x.0 x.1 in
        omega (arith, eqb-true n x.0 x.2, leb-true x.0 9 y)

line-short : (k n : ℕ) → k < 10 → n < 18446744073709551616 → length (answer_line k n) ≤ 23
unfolding answer_line line spaced
line-short k n h g =
    let a = length-append (decimal k) (32 ∷ (decimal n ++ 10 ∷ [])) in
    let b = length-append (decimal n) (10 ∷ []) in
    omega (arith, a, b, length-small k h, length-decimal n g)

lines-short : (m : Sys) (l : List Action) → well_formed base m ≡ true → length (action_lines base m l) ≤ 23 * length l
unfolding action_lines
lines-short m [] w = omega arith
lines-short m (a ∷ l) w =
    let n = after m (step base m a) in
    let v = step_keeps base m a w in
    let e = length-append (answer_line (answer (step base m a)) (size n)) (action_lines base n l) in
    omega (arith, e, line-short (answer (step base m a)) (size n) (answer-small m a w) (size_small n v), lines-short n l v)

-- ---- the totals
sum_is : (l : List ℕ) → (totals l).next_count + (totals l).ignored_count + (totals l).refused_count ≡ length l
unfolding totals counted
sum_is [] = refl
sum_is (n ∷ l) = go n (totals l) ∙ ap suc (sum_is l)
  where
    go : (n : ℕ) (t : Totals)
        → (counted n t).next_count + (counted n t).ignored_count + (counted n t).refused_count ≡ suc (t.next_count + t.ignored_count + t.refused_count)
    go zero t = omega arith
    go (suc zero) t = omega arith
    go (suc (suc n)) t = omega arith

answers-length : (m : Sys) (l : List Action) → length (answers base m l) ≡ length l
unfolding answers
answers-length m [] = refl
answers-length m (a ∷ l) = ap suc (answers-length (after m (step base m a)) l)

done-short : (m : Sys) (l : List Action) → length l ≤ most_bytes → length (done_line (totals (answers base m l))) ≤ 80
unfolding done_line
done-short m l h =
    let s = sum_is (answers base m l) in
    let n = answers-length m l in
    length-line _ _ (omega (arith, s, n, h), (omega (arith, s, n, h), (omega (arith, s, n, h), tt))) (omega arith)

none-short : length (done_line (totals [])) ≤ 80
unfolding done_line totals
none-short = length-line _ _ (omega arith, (omega arith, (omega arith, tt))) (omega arith)

-- ---- all of it
start-short : (m : Outcome Next) → Holds (λ (x : Next). well_formed base x.sys ≡ true) m → (answer m ≡ 0) ⊎ (start_numbers (answer m) ≡ true)
    → length (start_line m) ≤ 80
unfolding start_line answer after size blank boot len all
start-short (done x) h w = length-line _ _ (omega arith, (omega (arith, size_small x.sys (h.value x refl)), tt)) (omega arith)
start-short (refused n) h (inl e) = length-line _ _ (omega (arith, e), (omega arith, tt)) (omega arith)
start-short (refused n) h (inr e) =
    let x = any-in (eqb n) (6 ∷ 7 ∷ 8 ∷ 10 ∷ []) e in
    let y = all_in (λ k. leb k 10) (6 ∷ 7 ∷ 8 ∷ 10 ∷ []) refl x.0 x.1 in
    length-line _ _ (omega (arith, eqb-true n x.0 x.2, leb-true x.0 10 y), (omega arith, tt)) (omega arith)

run_short : (m : Outcome Next) (l : List Action) → Holds (λ (x : Next). well_formed base x.sys ≡ true) m → length l ≤ most_bytes
    → length (run_lines base m l) ≤ 23 * length l + 80
unfolding run_lines
run_short (done x) l h k =
    let e = length-append (action_lines base x.sys l) (done_line (totals (answers base x.sys l))) in
    omega (arith, e, lines-short x.sys l (h.value x refl), done-short x.sys l k)
run_short (refused n) l h k = omega (arith, none-short)

pub whole-short : (f : Format) (m : Outcome Next) (s : List ℕ) (at : ℕ) (l : List Action) {ys : List ℕ} {q : ℕ}
    → Holds (λ (x : Next). well_formed base x.sys ≡ true) m → (answer m ≡ 0) ⊎ (start_numbers (answer m) ≡ true)
    → length s ≤ most_bytes → actions_from f (drop at s) at ≡ read l ys q → length (start_line m ++ run_lines base m l) ≤ longest (length s)
whole-short f m s at l h w k e =
    let n = fewer f s at l (coming f s at e) in
    omega (arith, length-append (start_line m) (run_lines base m l), start-short m h w, run_short m l h (omega (arith, n, k)), n)
