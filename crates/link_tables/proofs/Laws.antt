-- Rows match as their rules do: event and state are one number, and it is equal where both are.
-- Assumes nothing.
use Prim.Native.Nat.{ℕ, suc, ◌+◌, ◌*◌, ◌/◌, ◌%◌, ◌≤◌, ◌<◌}
use native.Mathlib.Omega.{arith}
use mathlib.Core.Path.{◌≡◌, refl, sym, ap, ◌∙◌}
use mathlib.Core.Bool.{Bool, true, false, not, ◌&&◌, cond}
use mathlib.Core.List.{List, ◌∷◌}
use Rattle.std.specs.List.{position}
use Rattle.std.specs.Option.{unwrap_or}
use Rattle.std.proofs.Common.{Some, None}
use Rattle.std.proofs.lemmas.List.Recursion.{is_position_or_len}
use Rattle.std.proofs.lemmas.Bool.Decides.{nat_tests}
use lib.Seq.{length-take-le}
use lib.ListN.{length, take, get_or}
use lib.Dec.{ltb, eqb}
use Rattle.lists.specs.Lists.{lead}
use Rattle.lists.proofs.Places.{lead-le, lead-map, lead-same}
use Rattle.rules.specs.Inner.{matches}
use Rattle.link_tables.specs.Rows.{hit, rule_in, rules_in, first_of}

-- Event and state in one number.
key-same : (h e s : ℕ) → s < 16 → eqb h (e * 16 + s) ≡ (eqb e (h / 16) && eqb s (h % 16))
key-same h e s l = grind (arith, nat_tests)

pub hit-is : (event state value : ℕ) (r : List ℕ) → state < 16 → hit (event * 16 + state) value r ≡ matches event state value (rule_in r)
unfolding matches rule_in
hit-is event state value r h = rw (key-same (get_or r 0 0) event state h)

-- The first place is the rules' word for it.
counts-on : {A : Type 0} (p : A → Bool) (x : A) (l : List A) → lead (λ y. not (p y)) (x ∷ l) ≡ cond (p x) 0 (1 + lead (λ y. not (p y)) l)
counts-on p x l = go (p x)
  where
    go : (b : Bool) → elim (not b) [ true ↦ suc (lead (λ y. not (p y)) l) | false ↦ 0 ] ≡ cond b 0 (1 + lead (λ y. not (p y)) l)
    go true = refl
    go false = omega arith

first-place : {A : Type 0} (p : A → Bool) (l : List A) (n : ℕ) → length l ≡ n → unwrap_or (position p l) n ≡ lead (λ x. not (p x)) l
first-place p l n e = rw (← is_position_or_len (lead (λ x. not (p x))) p refl (counts-on p) l) (go (lead (λ x. not (p x)) l) (lead-le _ l))
  where
    go : (m : ℕ) → m ≤ length l → unwrap_or (cond (ltb m (length l)) (Some m) None) n ≡ m
    go m h = grind (arith, nat_tests)

pub found_at : (event state value : ℕ) (t : List (List ℕ)) (used : ℕ) → state < 16 → used ≤ length t
    → unwrap_or (position (hit (event * 16 + state) value) (take used t)) used ≡ first_of event state value (rules_in t used)
found_at event state value t used h k =
    first-place _ (take used t) used (length-take-le used t k)
    ∙ lead-same _ _ (λ x. ap not (hit-is event state value x h)) (take used t)
    ∙ sym (lead-map rule_in (λ x. not (matches event state value x)) (take used t))
