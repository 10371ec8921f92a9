-- The first listed timer that is at least f, by the trailing zeros of the word without the timers below f.
-- Assumes nothing.
use Prim.Native.Nat.{ℕ, zero, suc, ◌+◌, ◌*◌, ◌/◌, ◌%◌, ◌^◌, ◌≤◌, ◌<◌}
use native.Mathlib.Nat.{mul-one, add-zero, zero-add, div-one}
use native.Mathlib.Omega.{arith}
use mathlib.Core.Path.{◌≡◌, refl, sym, ap, ◌∙◌}
use mathlib.Core.Bool.{Bool, true, false}
use mathlib.Core.List.{List, [], ◌∷◌, ◌++◌}
use lib.Bits.{shifted_half, shifted_even}
use lib.Count.{count_trailing_zeros, under}
use lib.Dec.{ltb, eqb, leb-suc-suc}
use borrow.Author.Tests.{lt-ltb, le-leb, lt-leb}
use Rattle.lists.specs.Lists.{choose}
use Rattle.std.specs.Prelude.{Option, Some, None}
use Rattle.link_timers.specs.Views.{bits, listed_from, listed, first_from}
use Rattle.link_timers.proofs.Listed.{half-shr, low-lt}

-- What z trailing zeros among d digits say, where the lowest digit has the place k.
abbrev found_at : ℕ → ℕ → ℕ → Option ℕ
found_at d k z = choose (ltb z d) (Some (k + z)) None

past-digit : (b : Bool) (f k : ℕ) (ts : List ℕ) → k < f → first_from f (choose b (k ∷ []) [] ++ ts) ≡ first_from f ts
unfolding choose first_from
past-digit true f k ts h = rw (lt-leb f k h)
past-digit false f k ts h = refl

first_above : (d k x f : ℕ) → k + d ≤ f → first_from f (listed_from d k x) ≡ None
unfolding listed_from first_from
first_above zero k x f h = refl
first_above (suc d) k x f h =
    past-digit (eqb (x % 2) 1) f k (listed_from d (suc k) (x / 2)) (omega arith) ∙ first_above d (suc k) (x / 2) f (omega arith)

-- No timer above Network is found.
pub first-none : (x f : ℕ) → bits ≤ f → first_from f (listed x) ≡ None
unfolding listed
first-none x f h = first_above bits 0 x f (omega arith)

found_up : (d k z : ℕ) → found_at d (suc k) z ≡ found_at (suc d) k (suc z)
found_up d k z =
    ap (λ (b : Bool). choose b (Some (suc k + z)) None) (sym (leb-suc-suc (suc z) d))
    ∙ ap (λ (n : ℕ). choose (ltb (suc z) (suc d)) (Some n) None) (omega arith)

first-digit : (d f k b z : ℕ) (ts : List ℕ) → b < 2 → f ≤ k → first_from f ts ≡ found_at d (suc k) z
    → first_from f (choose (eqb b 1) (k ∷ []) [] ++ ts) ≡ found_at (suc d) k (under b z)
unfolding choose first_from
first-digit d f k zero z ts l h e = e ∙ found_up d k z
first-digit d f k (suc zero) z ts l h e = rw (le-leb f k h, lt-ltb 0 (suc d) (omega arith)) (ap Some (sym (add-zero k)))
first-digit d f k (suc (suc b)) z ts l h e = absurd (omega arith)

first-here : (d f k x : ℕ) → f ≤ k → first_from f (listed_from d k x) ≡ found_at d k (count_trailing_zeros d x)
unfolding listed_from count_trailing_zeros first_from choose
first-here zero f k x h = refl
first-here (suc d) f k x h =
    first-digit d f k (x % 2) (count_trailing_zeros d (x / 2)) (listed_from d (suc k) (x / 2)) (low-lt x) h (first-here d f (suc k) (x / 2) (omega arith))

found_none : (k x : ℕ) → None ≡ found_at 0 k (count_trailing_zeros 0 x)
unfolding count_trailing_zeros choose
found_none k x = refl

zeros-shifted : (d a j : ℕ) → count_trailing_zeros (suc d) (a * 2 ^ suc j) ≡ suc (count_trailing_zeros d (a * 2 ^ j))
unfolding count_trailing_zeros
zeros-shifted d a j = rw (shifted_even a j, shifted_half a j)

first-from : (d k x j f : ℕ) → f ≡ k + j → first_from f (listed_from d k x) ≡ found_at d k (count_trailing_zeros d (x / 2 ^ j * 2 ^ j))
unfolding listed_from first_from
first-from d k x zero f e =
    first-here d f k x (omega arith) ∙ ap (λ (n : ℕ). found_at d k (count_trailing_zeros d n)) (sym (mul-one (x / 1) ∙ div-one x))
first-from zero k x (suc j) f e = found_none k (x / 2 ^ suc j * 2 ^ suc j)
first-from (suc d) k x (suc j) f e =
    past-digit (eqb (x % 2) 1) f k (listed_from d (suc k) (x / 2)) (omega arith)
    ∙ first-from d (suc k) (x / 2) j f (omega arith)
    ∙ found_up d k (count_trailing_zeros d (x / 2 / 2 ^ j * 2 ^ j))
    ∙ ap (λ (n : ℕ). found_at (suc d) k (suc (count_trailing_zeros d (n * 2 ^ j)))) (half-shr x j)
    ∙ ap (found_at (suc d) k) (sym (zeros-shifted d (x / 2 ^ suc j) j))

-- The trailing zeros of the word without the timers below f are the timer found, where they are fewer than the bits.
pub first-zeros : (x f : ℕ) → first_from f (listed x)
    ≡ choose (ltb (count_trailing_zeros bits (x / 2 ^ f * 2 ^ f)) bits) (Some (count_trailing_zeros bits (x / 2 ^ f * 2 ^ f))) None
unfolding listed
first-zeros x f =
    first-from bits 0 x f f (sym (zero-add f))
    ∙ ap (λ (n : ℕ). choose (ltb (count_trailing_zeros bits (x / 2 ^ f * 2 ^ f)) bits) (Some n) None) (zero-add (count_trailing_zeros bits
    (x / 2 ^ f * 2 ^ f)))
