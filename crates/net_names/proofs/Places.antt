-- The array of kinds beside the list of their names: a place of both, and the first kind whose name it is.
-- Assumes nothing.
use Rattle.std.proofs.Common.{◌≡◌, ℕ, zero, suc, ◌+◌, ◌<◌, Bool, true, false, ◌&&◌, cond, Some, None, List, [], ◌∷◌, length, drop, get_or, refl, arith, add-one}
use Rattle.std.specs.Option.{ok_or}
use Rattle.std.specs.List.{find}
use Rattle.std.specs.Str.{bytes_eq}
use lib.Seq.{drop-cons}
use lib.Dec.{eqb}
use borrow.Author.Tests.{eq-eqb, ne_eqb}
use Rattle.lists.specs.Lists.{choose}
use Rattle.types.specs.declared.Kind.{Kind}
use Rattle.types.specs.declared.Kind.TheVariants.{Ordered, UnorderedDuplicating, UnorderedNonDuplicating}
use Rattle.rules.specs.Outcome.{done, refused}
use Rattle.rules.specs.Network.{name_of, names, same_bytes, kind_named}
use Rattle.net_names.specs.declared.TheConstants.{KINDS}
use Rattle.net_names.specs.declared.UnknownName.{UnknownName}
use Rattle.net_names.specs.Names.{named_of}

pub name_at : (i : ℕ) (k : Kind) → i < 3 → k ≡ get_or KINDS i k → drop i names ≡ name_of k ∷ drop (suc i) names
unfolding names
name_at zero k h e = rw e
name_at (suc zero) k h e = rw e
name_at (suc (suc zero)) k h e = rw e
name_at (suc (suc (suc n))) k h e = absurd (omega arith)

same_bytes-is : (a b : List ℕ) → same_bytes a b ≡ bytes_eq a b
unfolding same_bytes
same_bytes-is [] [] = refl
same_bytes-is [] (y ∷ b) = refl
same_bytes-is (x ∷ a) [] = refl
same_bytes-is (x ∷ a) (y ∷ b) = rw (same_bytes-is a b)

-- What is left of the two from a place on, when that place is compared.
module _ (a b : List ℕ) (i : ℕ) (p : i < length a) (q : i < length b) where
  split : same_bytes (drop i a) (drop i b) ≡ (eqb (get_or a i 0) (get_or b i 0) && same_bytes (drop (suc i) a) (drop (suc i) b))
  unfolding same_bytes
  split = rw (drop-cons a i 0 p, drop-cons b i 0 q)

  pub same_turn : get_or a i 0 ≡ get_or b i 0 → same_bytes (drop (i + 1) a) (drop (i + 1) b) ≡ same_bytes (drop i a) (drop i b)
  same_turn e = rw (split, eq-eqb _ _ e, add-one i)

  pub same-fails : (get_or a i 0 ≡ get_or b i 0 → ⊥) → same_bytes (drop i a) (drop i b) ≡ false
  same-fails e = rw (split, ne_eqb _ _ e)

abbrev pub is_name : List ℕ → Kind → Bool
is_name name k = bytes_eq name (name_of k)

pub first_named : (name : List ℕ) → ok_or {E = UnknownName} (find (is_name name) KINDS) (record {}) ≡ named_of (kind_named name)
unfolding kind_named choose
first_named name =
    rw (same_bytes-is name (name_of Ordered), same_bytes-is name (name_of UnorderedDuplicating), same_bytes-is name (name_of UnorderedNonDuplicating))
    (go (is_name name Ordered) (is_name name UnorderedDuplicating) (is_name name UnorderedNonDuplicating))
  where
    go
        : (p q r : Bool)
        → ok_or {E = UnknownName} (cond p (Some Ordered) (cond q (Some UnorderedDuplicating) (cond r (Some UnorderedNonDuplicating) None))) (record {})
        ≡ named_of (choose p (done Ordered) (choose q (done UnorderedDuplicating) (choose r (done UnorderedNonDuplicating) (refused 12))))
    go true q r = refl
    go false true r = refl
    go false false true = refl
    go false false false = refl
