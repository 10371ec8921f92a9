-- A walk by `next`, each time from one above the timer that was answered, meets the whole list in its order.
-- Assumes nothing.
use Prim.Native.Nat.{ℕ, zero, suc, ◌+◌, ◌≤◌}
use native.Mathlib.Omega.{arith}
use mathlib.Core.Path.{◌≡◌, refl, sym, ap, ◌∙◌}
use mathlib.Core.Bool.{Bool, true, false}
use mathlib.Core.List.{List, [], ◌∷◌}
use lib.Dec.{leb}
use lib.ListN.{length}
use Rattle.std.proofs.lemmas.List.{nil_from_length}
use borrow.Author.Tests.{leb-true, leb-false, le-leb, lt-leb}
use Rattle.lists.specs.Lists.{choose}
use Rattle.rules.specs.Timers.{count_timers}
use Rattle.std.specs.Prelude.{Option, Some, None}
use Rattle.link_timers.specs.Views.{bits, listed, first_from}
use Rattle.link_timers.proofs.Listed.{Ascends, listed-ascends, listed-timers, count_small}

-- What is left of an ascending list from f on.
unfoldable pub rest_from : ℕ → List ℕ → List ℕ
rest_from f [] = []
rest_from f (y ∷ ys) = choose (leb f y) (y ∷ ys) (rest_from f ys)

-- The timer that was answered, and what is met from one above it on.
abbrev and_on : Option ℕ → (ℕ → List ℕ) → List ℕ
and_on None on = []
and_on (Some y) on = y ∷ on (y + 1)

-- What a walk of at most n steps meets from f on.
abbrev pub walked : ℕ → ℕ → List ℕ → List ℕ
walked zero f ts = []
walked (suc n) f ts = and_on (first_from f ts) (λ g. walked n g ts)

rest_all : (f lo hi : ℕ) (ts : List ℕ) → f ≤ lo → Ascends lo hi ts → rest_from f ts ≡ ts
unfolding rest_from choose
rest_all f lo hi [] l a = refl
rest_all f lo hi (y ∷ ys) l a = rw (le-leb f y (omega arith))

-- What is found is at least f.
pub first-least : (f z : ℕ) (ts : List ℕ) → first_from f ts ≡ Some z → f ≤ z
unfolding first_from choose
first-least f z [] e = let c : ◌≡◌ {A = ℕ} 0 1 = cc in absurd (omega arith)
first-least f z (y ∷ ys) e = by-test (first-least f z ys) (leb f y) refl e
  where
    by-test : (first_from f ys ≡ Some z → f ≤ z) → (b : Bool) → leb f y ≡ b → choose b (Some y) (first_from f ys) ≡ Some z → f ≤ z
    by-test rest true p q = let same : y ≡ z = cc in omega (arith, leb-true f y p)
    by-test rest false p q = rest q

-- A timer below what was found is no part of the rest.
passed : (y : ℕ) (ys : List ℕ) (o : Option ℕ) → ((z : ℕ) → o ≡ Some z → y ≤ z) → and_on o (λ g. rest_from g ys)
    ≡ and_on o (λ g. rest_from g (y ∷ ys))
unfolding rest_from choose
passed y ys None h = refl
passed y ys (Some z) h = rw (lt-leb (z + 1) y (omega (arith, h z refl)))

rest-step : (f lo hi : ℕ) (ts : List ℕ) → Ascends lo hi ts → rest_from f ts ≡ and_on (first_from f ts) (λ g. rest_from g ts)
unfolding rest_from first_from choose
rest-step f lo hi [] a = refl
rest-step f lo hi (y ∷ ys) a = by-test (rest-step f (suc y) hi ys a.2) (leb f y) refl
  where
    by-test : rest_from f ys ≡ and_on (first_from f ys) (λ g. rest_from g ys) → (b : Bool) → leb f y ≡ b
        → choose b (y ∷ ys) (rest_from f ys) ≡ and_on (choose b (Some y) (first_from f ys)) (λ g. rest_from g (y ∷ ys))
    by-test rest true e = rw (lt-leb (y + 1) y (omega arith), rest_all (y + 1) (suc y) hi ys (omega arith) a.2)
    by-test rest false e = rest ∙ passed y ys (first_from f ys) (λ z q. omega (arith, leb-false f y e, first-least f z ys q))

-- ---- For a loop over the timers
-- At first the whole list is left.
pub walk_begins : (x : ℕ) → rest_from 0 (listed x) ≡ listed x
walk_begins x = rest_all 0 0 bits (listed x) (omega arith) (listed-ascends x)

walk_step : (x f : ℕ) → rest_from f (listed x) ≡ and_on (first_from f (listed x)) (λ g. rest_from g (listed x))
walk_step x f = rest-step f 0 bits (listed x) (listed-ascends x)

-- A timer that is found is the first of what is left.
pub walk-found : (x f y : ℕ) → first_from f (listed x) ≡ Some y → rest_from f (listed x) ≡ y ∷ rest_from (y + 1) (listed x)
walk-found x f y e = walk_step x f ∙ ap (λ (o : Option ℕ). and_on o (λ g. rest_from g (listed x))) e

-- Where none is found, nothing is left.
pub walk_ends : (x f : ℕ) → first_from f (listed x) ≡ None → rest_from f (listed x) ≡ []
walk_ends x f e = walk_step x f ∙ ap (λ (o : Option ℕ). and_on o (λ g. rest_from g (listed x))) e

-- ---- The whole walk
walked-rest : (n f x : ℕ) → length (rest_from f (listed x)) ≤ n → walked n f (listed x) ≡ rest_from f (listed x)
walked-rest zero f x h = sym (nil_from_length (rest_from f (listed x)) (omega arith))
walked-rest (suc n) f x h = by-found (first_from f (listed x)) refl (λ y. walked-rest n (y + 1) x) ∙ sym (walk_step x f)
  where
    by-found : (o : Option ℕ) → first_from f (listed x) ≡ o
        → ((y : ℕ) → length (rest_from (y + 1) (listed x)) ≤ n → walked n (y + 1) (listed x) ≡ rest_from (y + 1) (listed x))
        → and_on o (λ g. walked n g (listed x)) ≡ and_on o (λ g. rest_from g (listed x))
    by-found None e rest = refl
    by-found (Some y) e rest = let l = ap length (walk-found x f y e) in ap (λ (ts : List ℕ). y ∷ ts) (rest y (omega arith))

-- A walk from 0 meets every set timer once, in ascending order, and no other.
pub walk_meets : (x n : ℕ) → bits ≤ n → walked n 0 (listed x) ≡ listed x
unfolding count_timers
walk_meets x n h =
    let most = count_small (listed x) (listed-timers x) in
    walked-rest n 0 x (omega (arith, ap length (walk_begins x))) ∙ walk_begins x
