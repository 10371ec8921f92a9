-- A number's digits are those that std writes, and how many there are.
-- Assumes nothing.
use Rattle.std.proofs.Common.{ℕ, zero, suc, ◌+◌, ◌*◌, ◌/◌, ◌%◌, ◌^◌, ◌≤◌, ◌<◌, ◌≡◌, refl, sym, ap, ◌∙◌, List, [], ◌∷◌, ◌++◌, length, take, drop, length-append, take-append-drop, arith}
use Rattle.std.proofs.Math.Nat.{pow-suc}
use Rattle.std.proofs.lemmas.Fmt.{AppendsLastDigit, decimal_from_appends, decimal_digit, decimal_nonempty, length-decimal-le, length-decimal-le_succ}
use Rattle.std.specs.Fmt as std
use Rattle.std.specs.Prelude.{Option, None, Some, IfNone, IfSome, unwrap_or}
use borrow.Author.Tests.{lt-ltb, le-ltb}
use Rattle.lists.specs.Lists.{choose}
use Rattle.rules.specs.Program.{digits, decimal}

-- ---- the digits are those of std
-- `digits` with a first argument that is one more.
abbrev digits-below : ℕ → ℕ → List ℕ
digits-below zero n = []
digits-below (suc k) n = digits k n

one_digit : (k n : ℕ) → n < 10 → digits k n ≡ (48 + n) ∷ []
unfolding digits choose
one_digit zero n h = let e : n % 10 ≡ n = omega arith in rw e
one_digit (suc k) n h = rw (lt-ltb n 10 h)

more_digits : (k n : ℕ) → 10 ≤ n → digits k n ≡ digits-below k (n / 10) ++ (48 + n % 10) ∷ []
unfolding digits choose
more_digits zero n h = refl
more_digits (suc k) n h = rw (le-ltb n 10 h)

appends : AppendsLastDigit digits-below
appends = record { one = one_digit; more = more_digits }

pub decimal-std : (n : ℕ) → n < 2 ^ 64 → decimal n ≡ std.decimal n
unfolding decimal
decimal-std n h =
    let k = length-decimal-le_succ n h in
    decimal_from_appends digits-below appends (suc n) n h (omega arith)

-- ---- how many there are
pub length-small : (n : ℕ) → n < 10 → length (decimal n) ≡ 1
length-small n h = ap length (decimal-std n (omega arith) ∙ decimal_digit n h)

-- any first argument that is not less than the number gives the same
enough : (j k n : ℕ) → n ≤ j → n ≤ k → digits j n ≡ digits k n
unfolding digits
enough zero k n p q = let h : n < 10 = omega arith in one_digit zero n h ∙ sym (one_digit k n h)
enough (suc j) zero n p q = let h : n < 10 = omega arith in one_digit (suc j) n h ∙ sym (one_digit zero n h)
enough (suc j) (suc k) n p q = rw (enough j k (n / 10) (omega arith) (omega arith))

pub length_more : (n : ℕ) → 10 ≤ n → length (decimal n) ≡ length (decimal (n / 10)) + 1
unfolding decimal
length_more zero h = absurd (omega arith)
length_more (suc n) h =
    let i : suc n / 10 ≤ n = omega arith in
    let e = more_digits (suc n) (suc n) h ∙ ap (λ (l : List ℕ). l ++ (48 + suc n % 10) ∷ []) (enough n (suc n / 10) (suc n / 10) i (omega arith)) in
    ap length e ∙ length-append (decimal (suc n / 10)) ((48 + suc n % 10) ∷ [])

-- a number of 64 bits has up to 20 digits
pub length-decimal : (n : ℕ) → n < 2 ^ 64 → (1 ≤ length (decimal n)) × (length (decimal n) ≤ 20)
length-decimal n h =
    let e = ap length (decimal-std n h) in
    (omega (arith, e, decimal_nonempty n h), omega (arith, e, length-decimal-le 20 n (omega arith) (omega arith) h))

pow_pos : (k : ℕ) → 0 < 10 ^ k
pow_pos zero = omega arith
pow_pos (suc k) = omega (arith, pow_pos k, pow-suc 10 k)

length-by : (k n : ℕ) → 10 ^ k ≤ n → n < 10 * 10 ^ k → length (decimal n) ≡ k + 1
length-by zero n p q = length-small n (omega arith)
length-by (suc k) n p q =
    let e = pow-suc 10 k in
    let z = pow_pos k in
    let r = length-by k (n / 10) (omega arith) (omega arith) in
    length_more n (omega arith) ∙ omega arith

-- the place of the first digit, if there is one above 0, and one more: it is asked of m, which is n
pub width_of
    : (n : ℕ) {m : ℕ} (o : Option ℕ) → n < 2 ^ 64 → IfNone o (m ≡ 0) → IfSome o (λ k. 10 ^ k ≤ m) → IfSome o (λ k. m < 10 * 10 ^ k)
    → IfSome o (λ k. k < 20) → m ≡ n → (unwrap_or o 0 + 1 ≡ length (decimal n)) × (unwrap_or o 0 + 1 ≤ 20)
width_of n None h z p q b e =
    let l = length-small n (omega arith) in
    (omega arith, omega arith)
width_of n (Some k) h z p q b e =
    let l = length-by k n (omega arith) (omega arith) in
    (sym l, omega arith)

-- ---- a number in place: what is written is m, which is n
pub room-of
    : (at end size n : ℕ) {m : ℕ} → n < 2 ^ 64 → end ≡ at + length (decimal n) → end ≤ size → m ≡ n
    → (length (std.decimal m) ≤ end) × (end ≤ size)
room-of at end size n h e s q =
    let l = ap length (decimal-std n h) in
    (rw q (omega arith), s)

pub in-place
    : (at from end n : ℕ) {m : ℕ} (old new : List ℕ) → n < 2 ^ 64 → end ≡ at + length (decimal n) → from + length (std.decimal m) ≡ end
    → drop from new ≡ std.decimal m ++ drop end old → take from new ≡ take from old → m ≡ n → new ≡ take at old ++ (decimal n ++ drop end old)
in-place at from end n old new h e s w b r =
    let d = decimal-std n h ∙ ap std.decimal (sym r) in
    let l = ap length d in
    let q : from ≡ at = omega arith in
    sym (take-append-drop from new)
    ∙ ap (λ (x : List ℕ). x ++ drop from new) (b ∙ ap (λ (k : ℕ). take k old) q)
    ∙ ap (λ (x : List ℕ). take at old ++ x) (w ∙ ap (λ (x : List ℕ). x ++ drop end old) (sym d))
