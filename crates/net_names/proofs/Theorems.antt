-- What the answers are: a kind's own name gives 0 and the kind, any other bytes 12; what is written is read back.
-- Assumes nothing.
use Prim.Native.Nat.{ℕ, zero, suc, ◌≤◌, ◌<◌}
use Rattle.std.specs.Prelude.{Some, None, Result, Ok}
use native.Mathlib.Omega.{arith}
use mathlib.Core.Path.{◌≡◌, refl, sym, ap, ◌∙◌}
use mathlib.Core.Bool.{Bool, true, false}
use mathlib.Core.List.Memᴰ
use mathlib.Core.List.{List, [], ◌∷◌}
use lib.ListN.{length, take, drop, get_or, drop_of_length-le}
use lib.Seq.{take-append_seam, drop-cons}
use borrow.Author.Tests.{le-leb}
use Rattle.lists.specs.Lists.{◌∈◌, choose}
use Rattle.types.specs.declared.Kind.{Kind}
use Rattle.types.specs.declared.Kind.TheVariants.{Ordered, UnorderedDuplicating, UnorderedNonDuplicating}
use Rattle.rules.specs.Outcome.{Outcome, done, refused}
use Rattle.rules.specs.Network.{kind_of, name_of, names, same_bytes, kind_named}
use Rattle.rules.proofs.Network.{named, only-named}
use Rattle.net_names.specs.declared.UnknownName.{UnknownName}
use Rattle.net_names.specs.Names.{named_of, outcome_number, outcome_kinds, named_number, named_kinds, written_as, left_on, first_listed, first_left}

pub own_name : (k : Kind) → named_of (kind_named (name_of k)) ≡ Ok k
own_name k = ap named_of (named k)

pub known-name : (name : List ℕ) (k : Kind) → named_of (kind_named name) ≡ Ok k → name ≡ name_of k
known-name name k e = go (kind_named name) refl e
  where
    go : (o : Outcome Kind) → kind_named name ≡ o → named_of o ≡ Ok k → name ≡ name_of k
    go (done j) h q = let z : j ≡ k = cc in only-named name k (h ∙ ap (λ (i : Kind). done i) z)
    go (refused n) h q = let z : ◌≡◌ {A = ℕ} 0 1 = cc in absurd (omega arith)

-- The answer's number and kind are those of the outcome.
abbrev Numbered : Outcome Kind → Type 0
Numbered o = (named_number (named_of o) ≡ outcome_number o) × (named_kinds (named_of o) ≡ outcome_kinds o)

numbered : (name : List ℕ) → Numbered (kind_named name)
unfolding kind_named choose
numbered name = go (same_bytes name (name_of Ordered)) (same_bytes name (name_of UnorderedDuplicating)) (same_bytes name (name_of UnorderedNonDuplicating))
  where
    go : (p q r : Bool) → Numbered (choose p (done Ordered) (choose q (done UnorderedDuplicating) (choose r (done UnorderedNonDuplicating) (refused 12))))
    go true q r = (refl, refl)
    go false true r = (refl, refl)
    go false false true = (refl, refl)
    go false false false = (refl, refl)

-- What is refused is refused as 12, the number of `UnknownName`.
pub refused-number : (name : List ℕ) (n : ℕ) → kind_named name ≡ refused n → n ≡ 12
refused-number name n e = sym (rw e at (numbered name).0)

pub named-all
    : (name : List ℕ) {r : Result Kind UnknownName} → r ≡ named_of (kind_named name)
    → (r ≡ named_of (kind_named name)) × ((named_number r ≡ outcome_number (kind_named name)) × (named_kinds r ≡ outcome_kinds (kind_named name)))
named-all name e = (e, (ap named_number e ∙ (numbered name).0, ap named_kinds e ∙ (numbered name).1))

-- What is written into a buffer that it fits is the name whole, and is read back as the kind.
pub written_read : (k : Kind) (out : List ℕ) → length (name_of k) ≤ length out → named_of (kind_named (take (length (name_of k)) (left_on (name_of k) out)))
    ≡ Ok k
unfolding left_on choose
written_read k out h = rw (le-leb (length (name_of k)) (length out) h, take-append_seam (name_of k) (drop (length (name_of k)) out)) (own_name k)

-- ---- The list of names
-- The name at a place is that of the kind with this number, and names it.
pub listed-kind : (i : ℕ) → i < length names → (get_or names i [] ≡ name_of (kind_of i)) × (kind_named (get_or names i []) ≡ done (kind_of i))
unfolding names kind_of
listed-kind zero h = (refl, named Ordered)
listed-kind (suc zero) h = (refl, named UnorderedDuplicating)
listed-kind (suc (suc zero)) h = (refl, named UnorderedNonDuplicating)
listed-kind (suc (suc (suc n))) h = absurd (omega arith)

-- None is missing: the name of every kind, and so all that names a kind.
pub every-listed : (k : Kind) → name_of k ∈ names
unfolding names
every-listed Ordered = Memᴰ.head refl
every-listed UnorderedDuplicating = Memᴰ.tail (Memᴰ.head refl)
every-listed UnorderedNonDuplicating = Memᴰ.tail (Memᴰ.tail (Memᴰ.head refl))

pub known-listed : (name : List ℕ) (k : Kind) → kind_named name ≡ done k → name ∈ names
known-listed name k e = rw (only-named name k e) (every-listed k)

-- None is listed twice.
kind_number : Outcome Kind → ℕ
kind_number (done Ordered) = 0
kind_number (done UnorderedDuplicating) = 1
kind_number (done UnorderedNonDuplicating) = 2
kind_number (refused n) = 3

its-place : (i : ℕ) → i < 3 → kind_number (done (kind_of i)) ≡ i
unfolding kind_of kind_number
its-place zero h = refl
its-place (suc zero) h = refl
its-place (suc (suc zero)) h = refl
its-place (suc (suc (suc n))) h = absurd (omega arith)

pub listed-once : (i j : ℕ) → i < length names → j < length names → get_or names i [] ≡ get_or names j [] → i ≡ j
unfolding names
listed-once i j h k e =
    sym (its-place i h) ∙ ap kind_number (sym (listed-kind i h).1 ∙ ap kind_named e ∙ (listed-kind j k).1) ∙ its-place j k

-- A walk by `names`: at each place of the list the name is written whole into a buffer that it fits; then comes the end.
pub listed-written
    : (i : ℕ) (out : List ℕ) → i < length names → length (get_or names i []) ≤ length out
    → (first_listed (drop i names) out ≡ Some (Ok (length (get_or names i []))))
    × (take (length (get_or names i [])) (first_left (drop i names) out) ≡ get_or names i [])
unfolding names left_on written_as choose
listed-written i out h l =
    let n = get_or names i [] in
    let d : drop i names ≡ n ∷ drop (suc i) names = drop-cons names i [] h in
    (rw (d, le-leb (length n) (length out) l), rw (d, le-leb (length n) (length out) l) (take-append_seam n (drop (length n) out)))

pub listed-ends : (i : ℕ) (out : List ℕ) → length names ≤ i → first_listed (drop i names) out ≡ None
listed-ends i out h = ap (λ (l : List (List ℕ)). first_listed l out) (drop_of_length-le names h)
