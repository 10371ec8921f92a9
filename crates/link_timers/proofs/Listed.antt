-- The list of the set timers: its length, its members, its order; and that word and list say the same, both ways.
-- Digit t of x is x / 2 ^ t % 2.
-- Assumes nothing.
use Prim.Native.Nat.{ℕ, zero, suc, ◌+◌, ◌-◌, ◌*◌, ◌/◌, ◌%◌, ◌^◌, ◌≤◌, ◌<◌}
use native.Mathlib.Nat.{mul_assoc, mul_comm, add-mul, mul-one, div-one, div-add-mod', pow-suc, sub-zero, sub_self}
use native.Mathlib.Numerals.{add-one, one-add}
use native.Mathlib.Decide.{ℕ_discrete}
use native.Mathlib.Omega.{arith}
use mathlib.Core.Path.{◌≡◌, refl, sym, ap, ◌∙◌, subst}
use mathlib.Core.Bool.{Bool, true, false}
use mathlib.Core.List.Memᴰ
use mathlib.Core.List.{List, [], ◌∷◌, ◌++◌}
use lib.Arith.{lt-one}
use lib.Count.{ones, ones_step}
use lib.Dec.{ltb, eqb}
use lib.ListN.{length}
use lib.Pow.{pow_mono, shr_lt, shr-shr}
use borrow.Author.Tests.{ltb-true, lt-ltb, eq-eqb, ne_eqb}
use Rattle.lists.specs.Lists.{◌∈◌, choose, any}
use Rattle.lists.proofs.Chains.{First, Chain}
use Rattle.types.specs.Capacities.{network}
use Rattle.rules.specs.Timers.{no_timers, is_set, set_timer, cancel_timer, count_timers}
use Rattle.rules.proofs.Timers.{TimerSet, no-timers, set-timers, cancel-timers, set-changed, cancel-changed}
use Rattle.link_timers.specs.declared.Timers.{Timers}
use Rattle.link_timers.specs.Views.{bits, listed_from, listed, word_of, timers_of, set_of, cancel_of}

pub half_lt : {x : ℕ} (d : ℕ) → x < 2 ^ suc d → x / 2 < 2 ^ d
half_lt {x} d h = shr_lt d 1 (subst (λ (n : ℕ). x < 2 ^ n) (sym (add-one d)) h)

pub half-shr : (x j : ℕ) → x / 2 / 2 ^ j ≡ x / 2 ^ suc j
half-shr x j = shr-shr x 1 j ∙ ap (λ (n : ℕ). x / 2 ^ n) (one-add j)

pub low-lt : (x : ℕ) → x % 2 < 2
low-lt x = omega arith

-- ---- How many are set
length-digit : (b k : ℕ) (ts : List ℕ) → b < 2 → length (choose (eqb b 1) (k ∷ []) [] ++ ts) ≡ b + length ts
unfolding choose
length-digit zero k ts h = omega arith
length-digit (suc zero) k ts h = omega arith
length-digit (suc (suc b)) k ts h = absurd (omega arith)

ones_none : ones 0 ≡ 0
unfolding ones
ones_none = refl

length_from : (d k x : ℕ) → x < 2 ^ d → length (listed_from d k x) ≡ ones x
unfolding listed_from
length_from zero k x h = sym (ap ones (lt-one h) ∙ ones_none)
length_from (suc d) k x h =
    length-digit (x % 2) k (listed_from d (suc k) (x / 2)) (low-lt x)
    ∙ ap (λ (n : ℕ). x % 2 + n) (length_from d (suc k) (x / 2) (half_lt d h))
    ∙ sym (ones_step x)

-- As many are set as the word has ones.
pub count_ones : (x : ℕ) → x < 2 ^ bits → count_timers (listed x) ≡ ones x
unfolding listed count_timers
count_ones x h = length_from bits 0 x h

-- ---- Which are set
skip-digit : (b : Bool) (t k : ℕ) (ts : List ℕ) → (t ≡ k → ⊥) → any (eqb t) (choose b (k ∷ []) [] ++ ts) ≡ any (eqb t) ts
unfolding choose any
skip-digit true t k ts h = rw (ne_eqb t k h)
skip-digit false t k ts h = refl

at-digit : (b : Bool) (k : ℕ) (ts : List ℕ) → any (eqb k) ts ≡ false → any (eqb k) (choose b (k ∷ []) [] ++ ts) ≡ b
unfolding choose any
at-digit true k ts e = rw (eq-eqb k k refl)
at-digit false k ts e = e

below : (d k x t : ℕ) → t < k → any (eqb t) (listed_from d k x) ≡ false
unfolding listed_from any
below zero k x t h = refl
below (suc d) k x t h =
    skip-digit (eqb (x % 2) 1) t k (listed_from d (suc k) (x / 2)) (λ e. omega arith) ∙ below d (suc k) (x / 2) t (omega arith)

set-from : (d k x j t : ℕ) → t ≡ k + j → j < d → any (eqb t) (listed_from d k x) ≡ eqb (x / 2 ^ j % 2) 1
unfolding listed_from
set-from zero k x j t e h = absurd (omega arith)
set-from (suc d) k x zero t e h =
    let same : t ≡ k = omega arith in
    ap (λ (n : ℕ). any (eqb n) (listed_from (suc d) k x)) same
    ∙ at-digit (eqb (x % 2) 1) k (listed_from d (suc k) (x / 2)) (below d (suc k) (x / 2) k (omega arith))
    ∙ ap (λ (n : ℕ). eqb (n % 2) 1) (sym (div-one x))
set-from (suc d) k x (suc j) t e h =
    skip-digit (eqb (x % 2) 1) t k (listed_from d (suc k) (x / 2)) (λ p. omega arith)
    ∙ set-from d (suc k) (x / 2) j t (omega arith) (omega arith)
    ∙ ap (λ (n : ℕ). eqb (n % 2) 1) (half-shr x j)

-- Timer t is set where digit t is 1.
pub digit_set : (x t : ℕ) → t < bits → is_set t (listed x) ≡ eqb (x / 2 ^ t % 2) 1
unfolding listed is_set
digit_set x t h = set-from bits 0 x t t (omega arith) h

-- ---- The list ascends
-- From lo on, and below hi.
abbrev pub Ascends : ℕ → ℕ → List ℕ → Type 0
Ascends lo hi [] = Unit {0}
Ascends lo hi (y ∷ ys) = (lo ≤ y) × (y < hi) × Ascends (suc y) hi ys

wider : (lo lo' hi : ℕ) (ts : List ℕ) → lo' ≤ lo → Ascends lo hi ts → Ascends lo' hi ts
wider lo lo' hi [] l a = tt
wider lo lo' hi (y ∷ ys) l a = (omega arith, a.1, a.2)

digit-ascends : (b : Bool) (k hi : ℕ) (ts : List ℕ) → k < hi → Ascends (suc k) hi ts → Ascends k hi (choose b (k ∷ []) [] ++ ts)
unfolding choose
digit-ascends true k hi ts l a = (omega arith, l, a)
digit-ascends false k hi ts l a = wider (suc k) k hi ts (omega arith) a

from-ascends : (d k x hi : ℕ) → k + d ≤ hi → Ascends k hi (listed_from d k x)
unfolding listed_from
from-ascends zero k x hi h = tt
from-ascends (suc d) k x hi h =
    digit-ascends (eqb (x % 2) 1) k hi (listed_from d (suc k) (x / 2)) (omega arith) (from-ascends d (suc k) (x / 2) hi (omega arith))

pub listed-ascends : (x : ℕ) → Ascends 0 bits (listed x)
unfolding listed
listed-ascends x = from-ascends bits 0 x bits (omega arith)

ascends-most : (lo hi : ℕ) (ts : List ℕ) → Ascends lo hi ts → (t : ℕ) → t ∈ ts → t < hi
ascends-most lo hi [] a t x'' = elim x'' [ ]
ascends-most lo hi (y ∷ ys) a t (Memᴰ.head e) = rw e a.1
ascends-most lo hi (y ∷ ys) a t (Memᴰ.tail m) = ascends-most (suc y) hi ys a.2 t m

ascends-chain : (lo hi : ℕ) (ts : List ℕ) → Ascends lo hi ts → Chain ltb ts
unfolding Chain First
ascends-chain lo hi [] a = tt
ascends-chain lo hi (y ∷ []) a = (tt, tt)
ascends-chain lo hi (y ∷ z ∷ zs) a = (lt-ltb y z a.2.0, ascends-chain (suc y) hi (z ∷ zs) a.2)

-- The listed timers are a set of timers.
pub listed-timers : (x : ℕ) → TimerSet (listed x)
listed-timers x = record {
  most = λ t m. let h = ascends-most 0 bits (listed x) (listed-ascends x) t m in omega arith;
  up = ascends-chain 0 bits (listed x) (listed-ascends x);
}

chain-ascends : (y : ℕ) (ys : List ℕ) → ((t : ℕ) → t ∈ ys → t ≤ network) → First ltb y ys → Chain ltb ys → Ascends (suc y) bits ys
unfolding Chain First
chain-ascends y [] m f c = tt
chain-ascends y (z ∷ zs) m f c =
    let top = m z (Memᴰ.head refl) in
    (ltb-true y z f, omega arith, chain-ascends z zs (λ t k. m t (Memᴰ.tail k)) c.0 c.1)

timers-ascend : (ts : List ℕ) → TimerSet ts → Ascends 0 bits ts
unfolding Chain
timers-ascend [] h = tt
timers-ascend (y ∷ ys) h =
    let top = h.most y (Memᴰ.head refl) in
    (omega arith, omega arith, chain-ascends y ys (λ t k. h.most t (Memᴰ.tail k)) h.up.0 h.up.1)

length-ascends : (lo hi : ℕ) (ts : List ℕ) → lo ≤ hi → Ascends lo hi ts → length ts + lo ≤ hi
length-ascends lo hi [] l a = omega arith
length-ascends lo hi (y ∷ ys) l a =
    let rest = length-ascends (suc y) hi ys a.1 a.2 in
    omega arith

-- A set of timers has at most as many as the word has bits.
pub count_small : (ts : List ℕ) → TimerSet ts → count_timers ts ≤ bits
unfolding count_timers
count_small ts h = omega (arith, length-ascends 0 bits ts (omega arith) (timers-ascend ts h))

-- ---- The word of the list is the word
word-digit : (b k : ℕ) (ts : List ℕ) → b < 2 → word_of (choose (eqb b 1) (k ∷ []) [] ++ ts) ≡ b * 2 ^ k + word_of ts
unfolding choose
word-digit zero k ts h = omega arith
word-digit (suc zero) k ts h = omega arith
word-digit (suc (suc b)) k ts h = absurd (omega arith)

word-from : (d k x : ℕ) → x < 2 ^ d → word_of (listed_from d k x) ≡ x * 2 ^ k
unfolding listed_from
word-from zero k x h = rw (lt-one h) (omega arith)
word-from (suc d) k x h =
    let whole : x * 2 ^ k ≡ x / 2 * 2 ^ suc k + x % 2 * 2 ^ k =
    ap (λ (n : ℕ). n * 2 ^ k) (sym (div-add-mod' x 2))
    ∙ add-mul (x / 2 * 2) (x % 2) (2 ^ k)
    ∙ ap (λ (n : ℕ). n + x % 2 * 2 ^ k) (mul_assoc (x / 2) 2 (2 ^ k) ∙ ap (λ (n : ℕ). x / 2 * n) (mul_comm 2 (2 ^ k) ∙ sym (pow-suc 2 k))) in
    let low = word-digit (x % 2) k (listed_from d (suc k) (x / 2)) (low-lt x) in
    let rest = word-from d (suc k) (x / 2) (half_lt d h) in
    omega arith

pub word-listed : (x : ℕ) → x < 2 ^ bits → word_of (listed x) ≡ x
unfolding listed
word-listed x h = word-from bits 0 x h ∙ mul-one x

-- The set that holds a set's list is that set.
pub timers-listed : (x : Timers) → x.0 < 2 ^ bits → timers_of (listed x.0) ≡ x
timers-listed x h = λ i. record { 0 = word-listed x.0 h i }

-- ---- The list of a list's word is the list
-- The word, with the place k as its lowest digit.
abbrev value_from : ℕ → List ℕ → ℕ
value_from k [] = 0
value_from k (y ∷ ys) = 2 ^ (y - k) + value_from k ys

value-half : (k hi : ℕ) (ts : List ℕ) → Ascends (suc k) hi ts → value_from k ts ≡ value_from (suc k) ts * 2
value-half k hi [] a = refl
value-half k hi (y ∷ ys) a =
    let one : y - k ≡ suc (y - suc k) = omega arith in
    let power : 2 ^ (y - k) ≡ 2 ^ (y - suc k) * 2 = ap (λ (n : ℕ). 2 ^ n) one ∙ pow-suc 2 (y - suc k) in
    let rest = value-half k hi ys (wider (suc y) (suc k) hi ys (omega arith) a.2) in
    omega arith

-- The list from the place k on, by the lowest digit and the rest of the word.
digits : (d k v w : ℕ) (ts : List ℕ) → listed_from d (suc k) w ≡ ts → v / 2 ≡ w
    → (v % 2 ≡ 1 → listed_from (suc d) k v ≡ k ∷ ts) × (v % 2 ≡ 0 → listed_from (suc d) k v ≡ ts)
unfolding listed_from choose
digits d k v w ts e h = (λ one. rw (one, h, e), λ none. rw (none, h, e))

listed-value : (d k hi : ℕ) (ts : List ℕ) → hi ≡ k + d → Ascends k hi ts → listed_from d k (value_from k ts) ≡ ts
unfolding listed_from choose
listed-value zero k hi [] e a = refl
listed-value zero k hi (y ∷ ys) e a = absurd (omega arith)
listed-value (suc d) k hi [] e a = listed-value d (suc k) hi [] (omega arith) tt
listed-value (suc d) k hi (y ∷ ys) e a = by_place (listed-value d (suc k) hi) (ℕ_discrete y k)
  where
    by_place : ((ts : List ℕ) → hi ≡ suc k + d → Ascends (suc k) hi ts → listed_from d (suc k) (value_from (suc k) ts) ≡ ts)
        → Dec (y ≡ k) → listed_from (suc d) k (value_from k (y ∷ ys)) ≡ y ∷ ys
    by_place rest (yes p) =
        let above : Ascends (suc k) hi ys = subst (λ (n : ℕ). Ascends (suc n) hi ys) p a.2 in
        let one : 2 ^ (y - k) ≡ 1 = ap (λ (n : ℕ). 2 ^ (n - k)) p ∙ ap (λ (n : ℕ). 2 ^ n) (sub_self k) in
        let whole = value-half k hi ys above in
        (digits d k (value_from k (y ∷ ys)) (value_from (suc k) ys) ys (rest ys (omega arith) above) (omega arith)).0 (omega arith)
        ∙ ap (λ (n : ℕ). n ∷ ys) (sym p)
    by_place rest (no n) =
        let above : Ascends (suc k) hi (y ∷ ys) = (omega arith, a.1, a.2) in
        let whole = value-half k hi (y ∷ ys) above in
        (digits d k (value_from k (y ∷ ys)) (value_from (suc k) (y ∷ ys)) (y ∷ ys) (rest (y ∷ ys) (omega arith) above) (omega arith)).1 (omega arith)

word_value : (ts : List ℕ) → word_of ts ≡ value_from 0 ts
word_value [] = refl
word_value (y ∷ ys) = rw (sub-zero, word_value ys)

-- The list of the set that holds a set of timers is that set of timers.
pub listed-timers-of : (ts : List ℕ) → TimerSet ts → listed (timers_of ts).0 ≡ ts
unfolding listed
listed-timers-of ts h = ap (listed_from bits 0) (word_value ts) ∙ listed-value bits 0 bits ts refl (timers-ascend ts h)

word_bound : (lo hi : ℕ) (ts : List ℕ) → lo ≤ hi → Ascends lo hi ts → word_of ts + 2 ^ lo ≤ 2 ^ hi
word_bound lo hi [] l a = omega (arith, pow_mono {i = lo} {j = hi} l)
word_bound lo hi (y ∷ ys) l a =
    let rest = word_bound (suc y) hi ys a.1 a.2 in
    omega (arith, pow-suc 2 y, pow_mono {i = lo} {j = y} a.0)

-- The word of a set of timers has no bit more.
pub word_small : (ts : List ℕ) → TimerSet ts → (timers_of ts).0 < 2 ^ bits
word_small ts h = omega (arith, word_bound 0 bits ts (omega arith) (timers-ascend ts h))

-- ---- What the answers list
-- The new set lists nothing.
pub listed-new : listed (timers_of no_timers).0 ≡ no_timers
listed-new = listed-timers-of no_timers no-timers

-- The set after setting and after cancelling lists what the rules say.
pub listed-set : (x : Timers) (t : ℕ) → listed (set_of x t).timers.0 ≡ set_timer t (listed x.0)
listed-set x t = listed-timers-of (set_timer t (listed x.0)) (set-timers t (listed x.0) (listed-timers x.0))

pub listed-cancel : (x : Timers) (t : ℕ) → listed (cancel_of x t).timers.0 ≡ cancel_timer t (listed x.0)
listed-cancel x t = listed-timers-of (cancel_timer t (listed x.0)) (cancel-timers t (listed x.0) (listed-timers x.0))

-- Where the answer is that the set changed, it is another set.
pub set_other : (x : Timers) (t : ℕ) → (set_of x t).changed ≡ true → (set_of x t).timers ≡ x → ⊥
set_other x t e same =
    let more = set-changed t (listed x.0) e in
    let as_before = ap (λ (y : Timers). count_timers (listed y.0)) same in
    omega (arith, ap count_timers (listed-set x t))

pub cancel-other : (x : Timers) (t : ℕ) → (cancel_of x t).changed ≡ true → (cancel_of x t).timers ≡ x → ⊥
cancel-other x t e same =
    let fewer = cancel-changed t (listed x.0) e in
    let as_before = ap (λ (y : Timers). count_timers (listed y.0)) same in
    omega (arith, ap count_timers (listed-cancel x t))
