-- The words that the code computes with, as sums of powers of two; and what setting and cancelling answer, by them.
-- Assumes nothing.
use Prim.Native.Nat.{ℕ, zero, suc, ◌+◌, ◌-◌, ◌*◌, ◌/◌, ◌%◌, ◌^◌, ◌≤◌, ◌<◌, suc-le-suc, min}
use native.Mathlib.Nat.{one-mul, mod-eq_of_lt, add_comm, pow-suc}
use native.Mathlib.Decide.{dec_lt}
use native.Mathlib.Omega.{arith}
use mathlib.Core.Path.{◌≡◌, refl, sym, ap, ap₂, ◌∙◌, subst}
use mathlib.Core.Bool.{Bool, true, false, ◌||◌, and-false, true≢false, false≢true}
use mathlib.Core.List.{List, [], ◌∷◌}
use lib.Arith.{lt-one, digits_mod}
use lib.Bits.{bit_and, bit_or, and_step, and_high, or_disjoint}
use lib.Pow.{pow-lt, pow-add, pow_pos, shr_mod}
use lib.Count.{count_trailing_zeros}
use lib.Dec.{leb, ltb, eqb}
use borrow.Author.Tests.{lt-ltb, le-ltb, le-leb, eqb-true, eqb-false}
use Rattle.lists.specs.Lists.{choose, any, place, cut}
use Rattle.types.specs.Capacities.{network}
use Rattle.rules.specs.Timers.{is_set, set_timer, cancel_timer, set_changes, cancel_changes}
use Rattle.rules.proofs.Timers.{set-unchanged, cancel-unchanged, not_in}
use Rattle.link_timers.specs.declared.Timers.{Timers}
use Rattle.link_timers.specs.declared.Change.{Change}
use Rattle.std.specs.Prelude.{Some, None}
use Rattle.link_timers.specs.Views.{bits, listed, word_of, timers_of, set_of, cancel_of, first_from}
use Rattle.link_timers.proofs.Listed.{digit_set, listed-timers, word-listed, timers-listed}
use Rattle.link_timers.proofs.First.{first-zeros}

-- One bit.
bit_word : (t : ℕ) → t < bits → 1 * 2 ^ t % 4294967296 ≡ 2 ^ t
bit_word t h = ap (λ (n : ℕ). n % 4294967296) (one-mul (2 ^ t)) ∙ mod-eq_of_lt (pow-lt {i = t} {j = bits} h)

-- ── The set without the timers below f, and the first that is left ─────────────────────────────
mask_word : (f : ℕ) → f < bits → 4294967295 * 2 ^ f % 4294967296 ≡ 2 ^ bits - 2 ^ f
mask_word f h =
    let p = pow_pos f in
    let l : 2 ^ f < 2 ^ bits = pow-lt h in
    let parts : 4294967295 * 2 ^ f ≡ (2 ^ f - 1) * 4294967296 + (4294967296 - 2 ^ f) = omega arith in
    ap (λ (n : ℕ). n % 4294967296) parts ∙ digits_mod (2 ^ f - 1) (omega arith)

rest-word : (x f : ℕ) → x < 2 ^ bits → f < bits → bit_and x (4294967295 * 2 ^ f % 4294967296) ≡ x / 2 ^ f * 2 ^ f
rest-word x f h l =
    let whole : bits - f + f ≡ bits = omega arith in
    ap (bit_and x) (mask_word f l ∙ ap (λ (n : ℕ). 2 ^ n - 2 ^ f) (sym whole))
    ∙ and_high x (bits - f) f
    ∙ ap (λ (n : ℕ). n * 2 ^ f) (shr_mod (bits - f) f (subst (λ (n : ℕ). x < 2 ^ n) (sym whole) h))

abbrev zeros_of : ℕ → ℕ → ℕ
zeros_of x f = count_trailing_zeros bits (bit_and x (4294967295 * 2 ^ f % 4294967296))

first_word : (x f : ℕ) → x < 2 ^ bits → f < bits → first_from f (listed x) ≡ choose (ltb (zeros_of x f) bits) (Some (zeros_of x f)) None
first_word x f h l =
    first-zeros x f ∙ ap (λ (n : ℕ). choose (ltb (count_trailing_zeros bits n) bits) (Some (count_trailing_zeros bits n)) None) (sym (rest-word x f h l))

pub next-none : (x f : ℕ) → x < 2 ^ bits → f < bits → network < zeros_of x f → None ≡ first_from f (listed x)
unfolding choose
next-none x f h l z = sym (first_word x f h l ∙ rw (le-ltb (zeros_of x f) bits z))

pub next-timer : (x f : ℕ) → x < 2 ^ bits → f < bits → zeros_of x f ≤ network → Some (zeros_of x f) ≡ first_from f (listed x)
unfolding choose
next-timer x f h l z = sym (first_word x f h l ∙ rw (lt-ltb (zeros_of x f) bits (suc-le-suc z)))

-- ---- A bit more, a bit less
and-bit : (x t : ℕ) → bit_and x (2 ^ t) ≡ x / 2 ^ t % 2 * 2 ^ t
and-bit x t = ap (bit_and x) one ∙ and_high x 1 t
  where
    one : 2 ^ t ≡ 2 ^ (1 + t) - 2 ^ t
    one = omega (arith, pow-add 2 1 t)

min-split : (x y : ℕ) → x < 2 → y < 2 → min x (1 - y) + min x y ≡ x
min-split x y h l = omega arith

not-half : (p m : ℕ) → m < p * 2 → (p * 2 - 1 - m) / 2 ≡ p - 1 - m / 2
not-half p m h = omega arith

not_low : (p m : ℕ) → m < p * 2 → (p * 2 - 1 - m) % 2 ≡ 1 - m % 2
not_low p m h = omega arith

join : (a b u v x : ℕ) → a + b ≡ x / 2 → u + v ≡ x % 2 → a * 2 + u + (b * 2 + v) ≡ x
join a b u v x p q = omega arith

below_half : (p x : ℕ) → x < p * 2 → x / 2 < p
below_half p x h = omega arith

-- A word and its complement share out the digits of x.
and_split : (k x m : ℕ) → x < 2 ^ k → m < 2 ^ k → bit_and x (2 ^ k - 1 - m) + bit_and x m ≡ x
and_split zero x m h l = rw (lt-one h)
and_split (suc k) x m h l =
    let h' : x < 2 ^ k * 2 = rw pow-suc at h in
    let l' : m < 2 ^ k * 2 = rw pow-suc at l in
    rw (pow-suc, and_step x (2 ^ k * 2 - 1 - m), and_step x m, not-half (2 ^ k) m l', not_low (2 ^ k) m l')
    (join (bit_and (x / 2) (2 ^ k - 1 - m / 2)) (bit_and (x / 2) (m / 2)) (min (x % 2) (1 - m % 2)) (min (x % 2) (m % 2)) x
    (and_split k (x / 2) (m / 2) (below_half (2 ^ k) x h') (below_half (2 ^ k) m l'))
    (min-split (x % 2) (m % 2) (omega arith) (omega arith)))

word-place : (t : ℕ) (ts : List ℕ) → any (eqb t) ts ≡ false → word_of (place (eqb t) (λ u. u) (ltb t) t ts) ≡ 2 ^ t + word_of ts
unfolding place any choose
word-place t [] e = refl
word-place t (y ∷ ys) e = by-test (eqb t y) (ltb t y) e (word-place t ys)
  where
    by-test : (a b : Bool) → (a || any (eqb t) ys) ≡ false
        → (any (eqb t) ys ≡ false → word_of (place (eqb t) (λ u. u) (ltb t) t ys) ≡ 2 ^ t + word_of ys)
        → word_of (choose a (y ∷ ys) (choose b (t ∷ y ∷ ys) (y ∷ place (eqb t) (λ u. u) (ltb t) t ys))) ≡ 2 ^ t + (2 ^ y + word_of ys)
    by-test true b q rest = absurd (true≢false q)
    by-test false true q rest = refl
    by-test false false q rest = omega (arith, rest q)

word_cut : (t : ℕ) (ts : List ℕ) → any (eqb t) ts ≡ true → 2 ^ t + word_of (cut (eqb t) (λ u. []) ts) ≡ word_of ts
unfolding cut any choose
word_cut t [] e = absurd (false≢true e)
word_cut t (y ∷ ys) e = by-test (eqb t y) refl e (word_cut t ys)
  where
    by-test : (b : Bool) → eqb t y ≡ b → (b || any (eqb t) ys) ≡ true
        → (any (eqb t) ys ≡ true → 2 ^ t + word_of (cut (eqb t) (λ u. []) ys) ≡ word_of ys)
        → 2 ^ t + word_of (choose b ys (y ∷ cut (eqb t) (λ u. []) ys)) ≡ 2 ^ y + word_of ys
    by-test true p q rest = ap (λ (n : ℕ). 2 ^ n + word_of ys) (eqb-true t y p)
    by-test false p q rest = omega (arith, rest q)

set_word : (x t : ℕ) → x < 2 ^ bits → t < bits → is_set t (listed x) ≡ false → bit_or x (1 * 2 ^ t % 4294967296) ≡ word_of (set_timer t (listed x))
unfolding set_timer is_set choose
set_word x t h l e =
    let zero_bit : x / 2 ^ t % 2 ≡ 0 = omega (arith, eqb-false (x / 2 ^ t % 2) 1 (sym (digit_set x t l) ∙ e)) in
    let apart : bit_and x (2 ^ t) ≡ 0 = and-bit x t ∙ ap (λ (n : ℕ). n * 2 ^ t) zero_bit ∙ omega arith in
    rw (le-leb t network (omega arith))
    (ap (bit_or x) (bit_word t l)
    ∙ or_disjoint x (2 ^ t) apart
    ∙ add_comm x (2 ^ t)
    ∙ ap (λ (n : ℕ). 2 ^ t + n) (sym (word-listed x h))
    ∙ sym (word-place t (listed x) e))

cancel-word : (x t : ℕ) → x < 2 ^ bits → t < bits → is_set t (listed x) ≡ true
    → bit_and x (4294967295 - 1 * 2 ^ t % 4294967296) ≡ word_of (cancel_timer t (listed x))
unfolding cancel_timer is_set choose
cancel-word x t h l e =
    let one_bit : x / 2 ^ t % 2 ≡ 1 = eqb-true (x / 2 ^ t % 2) 1 (sym (digit_set x t l) ∙ e) in
    let here : bit_and x (2 ^ t) ≡ 2 ^ t = and-bit x t ∙ ap (λ (n : ℕ). n * 2 ^ t) one_bit ∙ one-mul (2 ^ t) in
    let parts = and_split bits x (2 ^ t) h (pow-lt l) in
    let gone = word_cut t (listed x) e in
    let whole = word-listed x h in
    rw (le-leb t network (omega arith)) (ap (λ (n : ℕ). bit_and x (4294967295 - n)) (bit_word t l) ∙ omega arith)

-- ---- What setting and cancelling answer
-- Only a timer up to Network is ever set.
pub set-small : (x t : ℕ) → is_set t (listed x) ≡ true → t < bits
set-small x t e = small (dec_lt t bits)
  where
    small : Dec (t < bits) → t < bits
    small (yes h) = h
    small (no n) = absurd (true≢false (sym e ∙ not_in t (listed x) (listed-timers x) (omega arith)))

abbrev answer : Bool → Timers → Change
answer b x = record { changed = b; timers = x }

-- Where nothing changes, the set that came is answered.
pub set_same : (x : Timers) (t : ℕ) → x.0 < 2 ^ bits → set_changes t (listed x.0) ≡ false → answer false x ≡ set_of x t
set_same x t h e = sym (ap₂ answer e (ap timers_of (set-unchanged t (listed x.0) (listed-timers x.0) e) ∙ timers-listed x h))

pub cancel-same : (x : Timers) (t : ℕ) → x.0 < 2 ^ bits → cancel_changes t (listed x.0) ≡ false → answer false x ≡ cancel_of x t
cancel-same x t h e = sym (ap₂ answer e (ap timers_of (cancel-unchanged t (listed x.0) e) ∙ timers-listed x h))

-- A timer that is set already is not set anew, and one that is not set is not cancelled.
pub set-again : (t : ℕ) (ts : List ℕ) → is_set t ts ≡ true → set_changes t ts ≡ false
unfolding set_changes
set-again t ts e = rw e (and-false (leb t network))

pub cancel-missing : (t : ℕ) (ts : List ℕ) → is_set t ts ≡ false → cancel_changes t ts ≡ false
unfolding cancel_changes
cancel-missing t ts e = rw e (and-false (leb t network))

-- Where the set changes, one bit is set or cleared.
set-changes : (t : ℕ) (ts : List ℕ) → t < bits → is_set t ts ≡ false → set_changes t ts ≡ true
unfolding set_changes
set-changes t ts l e = rw (le-leb t network (omega arith), e)

cancel-changes : (t : ℕ) (ts : List ℕ) → t < bits → is_set t ts ≡ true → cancel_changes t ts ≡ true
unfolding cancel_changes
cancel-changes t ts l e = rw (le-leb t network (omega arith), e)

pub set-anew : (x : Timers) (t : ℕ) → x.0 < 2 ^ bits → t < bits → is_set t (listed x.0) ≡ false
    → answer true (record { 0 = bit_or x.0 (1 * 2 ^ t % 4294967296) }) ≡ set_of x t
set-anew x t h l e = ap₂ answer (sym (set-changes t (listed x.0) l e)) (λ i. record { 0 = set_word x.0 t h l e i })

pub cancel-set : (x : Timers) (t : ℕ) → x.0 < 2 ^ bits → t < bits → is_set t (listed x.0) ≡ true
    → answer true (record { 0 = bit_and x.0 (4294967295 - 1 * 2 ^ t % 4294967296) }) ≡ cancel_of x t
cancel-set x t h l e = ap₂ answer (sym (cancel-changes t (listed x.0) l e)) (λ i. record { 0 = cancel-word x.0 t h l e i })
