-- The structs' changes as changes of the lists that they hold. An array whose free places are zero is its list padded with zeros, so
-- that a change of the one is the change of the other.
-- Assumes nothing.
use Prim.Native.Nat.{ℕ, suc, ◌-◌, ◌≤◌}
use native.Mathlib.Omega.{arith}
use mathlib.Core.Path.{◌≡◌, refl, sym, ap, ◌∙◌}
use mathlib.Core.Bool.{Bool, true}
use mathlib.Core.List.{[], List, ◌∷◌, ◌++◌}
use lib.ListN.{length, drop, replicate, length-take, length-drop, take-append-drop}
use lib.Seq.{drop_at, length-take-le}
use lib.Dec.{leb}
use borrow.Author.Tests.{leb-true, le-leb, eqb-true}
use Rattle.lists.specs.Lists.{all, chain, ends_in, every, pad}
use Rattle.lists.proofs.Members.{every-cons, every-make, every-nil}
use Rattle.lists.proofs.Walks.{all_same}
use Rattle.lists.proofs.Places.{laid-length, pad-view}
use Rattle.types.specs.Capacities.{most_pending, most_actors}
use Rattle.types.specs.declared.Number.{Number}
use Rattle.types.specs.declared.Pending.{Pending}
use Rattle.std.specs.Prelude.{Option}
use Rattle.rules.specs.Link.{untaken}
use Rattle.rules.specs.Link as rules
use Rattle.rules.specs.Outcome.{base}
use Rattle.rules.specs.WellFormed.{pending_ok, by_number, durable_ok}
use Rattle.link_durable.specs.declared.Filled.{Filled}
use Rattle.link_durable.specs.declared.Durable.{Durable}
use Rattle.link_durable.specs.Views.{Pendings, Taken, in_use, filled_of, laid, zero_pending, pending_list, pendings_of, taken_list, taken_as}
use Rattle.link_durable.specs.Views.{durable_view, durable_as, blank_pending, blank_number, pendings_laid, taken_laid, durable_laid}

-- ---- an array of which the first places are used and the others hold z, as a test p finds it
pub record Laid {A : Type 0} {n : ℕ} (z : A) (f : Filled A n) : Type 0 where
  pub fit : f.used ≤ n
  pub rest : f.places ≡ pad n z (in_use f)

all-fill : {A : Type 0} (p : A → Bool) (z : A) → p z ≡ true → (k : ℕ) → all p (replicate k z) ≡ true
unfolding all
all-fill p z zero ℕ.zero = refl
all-fill p z zero (suc k) = rw zero (all-fill p z zero k)

module _ {A : Type 0} {n : ℕ} (p : A → Bool) (z : A) where
  laid-is : ((x : A) → p x ≡ true → x ≡ z) → (f : Filled A n) → length f.places ≡ n → laid p f ≡ true → Laid z f
  unfolding laid pad
  laid-is only f h e =
      let a = every-cons _ _ e in
      let k = leb-true f.used n a.0 in
      let v = length-take-le f.used f.places (omega arith) in
      let m : length (drop f.used f.places) ≡ n - length (in_use f) = omega (arith, length-drop f.used f.places) in
      record {
        fit = k;
        rest = sym (take-append-drop f.used f.places)
            ∙ ap (λ (l : List A). in_use f ++ l) (all_same p z only (drop f.used f.places) (every-cons _ _ a.1).0 ∙ ap (λ (j : ℕ). replicate j z) m);
      }

  -- an array that holds a list
  is-laid : p z ≡ true → (l : List A) → length l ≤ n → laid p (filled_of n z l) ≡ true
  unfolding laid pad
  is-laid zero l h =
      every-make _ _ (le-leb (length l) n h)
      (every-make _ _ (ap (all p) (drop_at l _ (length l) refl) ∙ all-fill p z zero (n - length l)) every-nil)

module _ {A : Type 0} {n : ℕ} (z : A) (f : Filled A n) (laid : Laid z f) where
  pub count : length (in_use f) ≡ f.used
  count = laid-length n z f.places f.used laid.fit laid.rest

  -- the struct of a list
  as-list : (es : List A) (u : ℕ) (l : List A) → es ≡ pad n z l → u ≡ length l
      → ◌≡◌ {A = Filled A n} (record { places = es; used = u }) (filled_of n z l)
  as-list es u l e f = λ i. record { places = e i; used = f i }

  pub filled-same : f ≡ filled_of n z (in_use f)
  filled-same = as-list f.places f.used (in_use f) laid.rest (sym count)

-- ---- pending records, and numbers last taken
abbrev pub PendingLaid : Pendings → Type 0
PendingLaid p = Laid zero_pending p

abbrev pub TakenLaid : Taken → Type 0
TakenLaid t = Laid untaken t

blank-pending : (q : Pending) → blank_pending q ≡ true → q ≡ zero_pending
unfolding blank_pending
blank-pending q e =
    let a = every-cons _ _ e in let b = every-cons _ _ a.1 in let c = every-cons _ _ b.1 in
    let x = eqb-true q.number.0 0 a.0 in let y = eqb-true q.dst.0 0 b.0 in let z = eqb-true q.payload.0 0 c.0 in
    λ i. record { number = record { 0 = x i }; dst = record { 0 = y i }; payload = record { 0 = z i } }

blank-number : (n : Number) → blank_number n ≡ true → n ≡ untaken
unfolding blank_number
blank-number n e = let x = eqb-true n.0 0 e in λ i. record { 0 = x i }

pub pendings-are : (p : Pendings) → length p.places ≡ most_pending → pendings_laid p ≡ true → PendingLaid p
unfolding pendings_laid
pendings-are p n e = laid-is blank_pending zero_pending blank-pending p n e

pub taken-are : (t : Taken) → length t.places ≡ most_actors → taken_laid t ≡ true → TakenLaid t
unfolding taken_laid
taken-are t n e = laid-is blank_number untaken blank-number t n e

pub pendings-of : (l : List Pending) → length l ≤ most_pending → pendings_laid (pendings_of l) ≡ true
unfolding pendings_laid blank_pending every
pendings-of l h = is-laid blank_pending zero_pending refl l h

pub taken_of : (l : List Number) → length l ≤ most_actors → taken_laid (taken_as l) ≡ true
unfolding taken_laid blank_number
taken_of l h = is-laid blank_number untaken refl l h

-- ---- the durable part
pub record DurableLaid (d : Durable) : Type 0 where
  pub pendings : PendingLaid d.pending
  pub numbers : TakenLaid d.taken

pub durable-parts : (d : Durable) → durable_laid d ≡ true → (pendings_laid d.pending ≡ true) × (taken_laid d.taken ≡ true)
unfolding durable_laid
durable-parts d e = let a = every-cons _ _ e in (a.0, (every-cons _ _ a.1).0)

pub durable-is : (d : Durable) → length d.pending.places ≡ most_pending → length d.taken.places ≡ most_actors → durable_laid d ≡ true
    → DurableLaid d
durable-is d n m e = let a = durable-parts d e in record { pendings = pendings-are d.pending n a.0; numbers = taken-are d.taken m a.1 }

-- The counts of a part that is laid out.
pub counts : (d : Durable) → durable_laid d ≡ true → (d.pending.used ≤ most_pending) × (d.taken.used ≤ most_actors)
unfolding pendings_laid taken_laid laid
counts d e =
    let h = durable-parts d e in
    (leb-true d.pending.used most_pending (every-cons _ _ h.0).0, leb-true d.taken.used most_actors (every-cons _ _ h.1).0)

-- What a part that is laid out holds fits.
pub durable-small : (d : Durable) → durable_laid d ≡ true → (length (pending_list d.pending) ≤ most_pending)
    × (length (taken_list d.taken) ≤ most_actors)
durable-small d e =
    let h = counts d e in
    (omega (arith, length-take d.pending.used d.pending.places), omega (arith, length-take d.taken.used d.taken.places))

-- A durable part that fits is laid out, and seen as it was.
pub durable-fits : (d : rules.Durable) → length d.pending ≤ most_pending → length d.taken ≤ most_actors → durable_laid (durable_as d) ≡ true
unfolding durable_laid every
durable-fits d h k = rw (pendings-of d.pending h, taken_of d.taken k)

pub durable-back : (d : rules.Durable) → durable_view (durable_as d) ≡ d
durable-back d =
    let p = pad-view most_pending zero_pending d.pending in let t = pad-view most_actors untaken d.taken in
    λ i. record { next = d.next; pending = p i; taken = t i; inner = d.inner }

pub same_parts : (n m : Number) (p q : Pendings) (t u : Taken) (s : Option ℕ) → n ≡ m → p ≡ q → t ≡ u
    → ◌≡◌ {A = Durable} (record { next = n; pending = p; taken = t; inner = s }) (record { next = m; pending = q; taken = u; inner = s })
same_parts n m p q t u s e f g = λ i. record { next = e i; pending = f i; taken = g i; inner = s }

pub durable-same : (d : Durable) → DurableLaid d → d ≡ durable_as (durable_view d)
durable-same d l =
    same_parts d.next d.next d.pending _ d.taken _ d.inner refl (filled-same zero_pending d.pending l.pendings) (filled-same untaken d.taken l.numbers)

-- ---- the test of a durable part
-- Laid out says already that the records are not too many.
pub formed : (d : Durable) (k : ℕ) → durable_laid d ≡ true → durable_ok base.limits k (durable_view d) ≡ every
    (leb 1 d.next.0 ∷ all (pending_ok d.next.0) (pending_list d.pending) ∷ chain by_number (pending_list d.pending)
    ∷ leb (length (taken_list d.taken)) k ∷ ends_in (λ n. leb 1 n.0) (taken_list d.taken) ∷ [])
unfolding durable_ok every
formed d k e = rw (le-leb (length (pending_list d.pending)) base.limits.pending (durable-small d e).0)
