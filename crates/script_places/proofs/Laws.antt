-- Why a record at a place is read right: where it ends, and how the numbers in its first fields lead its form on.
-- Assumes nothing.
use Prim.Native.Nat.{ℕ, ◌+◌, ◌-◌, ◌*◌, ◌≤◌, ◌<◌}
use native.Mathlib.Omega.{arith}
use mathlib.Core.Path.{◌≡◌, refl, sym, ap, ◌∙◌}
use mathlib.Core.List.{List, [], ◌∷◌}
use mathlib.Core.Bool.{Bool, true, false}
use borrow.Author.Tests.{le-leb, lt-leb}
use Rattle.std.specs.Prelude.{Option, Some, None, Result, Ok, Err}
use lib.ListN.{length, take, drop, length-drop, drop_of_length-le}
use lib.Seq.{take_all, drop-length}
use lib.Dec.{eqb}
use Rattle.lists.specs.Lists.{choose}
use Rattle.layout.specs.Bits.{field_at}
use Rattle.layout.specs.Form.{Form, filled, refuse, field, Reached, reached, stuck, got, bad, follow, then, bytes_for, whole_of, padded, record_of}
use Rattle.layout.specs.Read.{Reading, read, bad_at, placed, one}
use Rattle.layout.proofs.Laws.{then-reached, stuck-first}
use Rattle.script_places.specs.declared.BadAt.{BadAt}
use Rattle.script_places.specs.Views.{ending_of, same, result_of, part_of}

-- ---- a record at a place: what is answered is what its form reached, and how the record ends
abbrev pub valued : {B : Type 0} → ℕ → B → Option ℕ → Result (B × ℕ) BadAt
valued at b (Some p) = Ok (b, p)
valued at b None = Err (record { 0 = at })

module _ {A B : Type 0} (k : A → B) (f : Form A) (s : List ℕ) (at : ℕ) where
  whole-at : (xs : List ℕ) (b : Bool) (a : A) (n : ℕ) → result_of k (placed (choose b (got a (bytes_for n)) bad) xs at) ≡ valued at (k a) (ending_of at b n)
  unfolding placed choose
  whole-at xs true a n = refl
  whole-at xs false a n = refl

  -- xs is what stands from the place on
  module _ {xs : List ℕ} (l : xs ≡ drop at s) where
    there : {g : Reached A} → follow xs f 0 ≡ g → one f (drop at s) at ≡ placed (padded (drop at s) g) (drop at s) at
    unfolding one record_of
    there h = ap (λ (g : Reached A). placed (padded (drop at s) g) (drop at s) at) (ap (λ (ys : List ℕ). follow ys f 0) (sym l) ∙ h)

    pub record_at
        : {a : A} {n : ℕ} {z : Option ℕ} → follow xs f 0 ≡ reached a n → z ≡ ending_of at (whole_of (drop at s) n) n
        → valued at (k a) z ≡ result_of k (one f (drop at s) at)
    unfolding padded
    record_at {a} {n} h e =
        ap (valued at (k a)) e ∙ sym (ap (result_of k) (there h) ∙ whole-at (drop at s) (whole_of (drop at s) n) a n)

    pub no-record : follow xs f 0 ≡ stuck → Err (record { 0 = at }) ≡ result_of k (one f (drop at s) at)
    unfolding padded placed
    no-record h = sym (ap (result_of k) (there h))

-- a record is cut, or is whole if what pads it is 0
module _ (xs : List ℕ) (n : ℕ) where
  pub whole-short : length xs < bytes_for n → whole_of xs n ≡ false
  unfolding whole_of
  whole-short h = rw (lt-leb _ _ h)

  pub whole_by : {fill : ℕ} → bytes_for n ≤ length xs → fill ≡ field_at xs n (8 * bytes_for n - n) → whole_of xs n ≡ eqb fill 0
  unfolding whole_of
  whole_by h e = rw (le-leb _ _ h, e)

-- ---- a form and what is made of its value
module _ {A B : Type 0} (xs : List ℕ) (at : ℕ) (f : Form A) (k : A → B) where
  pub then_at : {a : A} {e : ℕ} → follow xs f at ≡ reached a e → follow xs (then f (λ x. filled (k x))) at ≡ reached (k a) e
  then_at h = then-reached xs f (λ x. filled (k x)) at h refl

  pub then-stuck : follow xs f at ≡ stuck → follow xs (then f (λ x. filled (k x))) at ≡ stuck
  then-stuck h = stuck-first xs f (λ x. filled (k x)) at h

-- ---- a form whose first fields are known
module _ (xs : List ℕ) where
  pub moved : (w : ℕ) {i j v : ℕ} → v ≡ field_at xs i w → i ≡ j → v ≡ field_at xs j w
  moved w p q = p ∙ ap (λ (i : ℕ). field_at xs i w) q

  -- These numbers stand in the form's first fields; the form after them, and the bit after them.
  abbrev pub Stand : {A : Type 0} → Form A → ℕ → List ℕ → Type 0
  Stand g at [] = Unit
  Stand (filled a) at (v ∷ vs) = ⊥
  Stand refuse at (v ∷ vs) = ⊥
  Stand (field w k) at (v ∷ vs) = (v ≡ field_at xs at w) × Stand (k v) (at + w) vs

  abbrev pub form_after : {A : Type 0} → Form A → List ℕ → Form A
  form_after g [] = g
  form_after (filled a) (v ∷ vs) = refuse
  form_after refuse (v ∷ vs) = refuse
  form_after (field w k) (v ∷ vs) = form_after (k v) vs

  abbrev pub bit_after : {A : Type 0} → Form A → List ℕ → ℕ → ℕ
  bit_after g [] at = at
  bit_after (filled a) (v ∷ vs) at = at
  bit_after refuse (v ∷ vs) at = at
  bit_after (field w k) (v ∷ vs) at = bit_after (k v) vs (at + w)

  pub fed-on : {A : Type 0} (g : Form A) (at : ℕ) (vs : List ℕ) → Stand g at vs → follow xs g at ≡ follow xs (form_after g vs) (bit_after g vs at)
  fed-on g at [] h = refl
  fed-on (filled a) at (v ∷ vs) h = absurd h
  fed-on refuse at (v ∷ vs) h = absurd h
  fed-on (field w k) at (v ∷ vs) h = rw (← h.0) (fed-on (k v) (at + w) vs h.1)

-- ---- what the answer of a part says of its form
abbrev pub reach_of : {A : Type 0} → Option (A × ℕ) → Reached A
reach_of (Some (a, n)) = reached a n
reach_of None = stuck

pub part-back : {A : Type 0} {g : Reached A} {x : Option (A × ℕ)} → x ≡ part_of same g → g ≡ reach_of x
part-back {g = reached a n} e = sym (ap reach_of e)
part-back {g = stuck} e = sym (ap reach_of e)
