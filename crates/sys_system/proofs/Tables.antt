-- A table that passes its test is that of its rules, and one of sound rules passes.
-- Assumes nothing.
use Prim.Native.Nat.{ℕ, zero, suc, ◌-◌, ◌≤◌}
use native.Mathlib.Omega.{arith}
use mathlib.Core.Path.{◌≡◌, refl, sym, ap, subst, ◌∙◌}
use mathlib.Core.Bool.{Bool, true, ◌&&◌, and-true}
use mathlib.Core.List.Memᴰ
use mathlib.Core.List.{List, [], ◌∷◌, ◌++◌}
use lib.ListN.{length, take, drop, replicate, length-drop, take-append-drop}
use lib.Seq.{length-take-le, drop_at}
use lib.Dec.{leb}
use borrow.Author.Tests.{leb-true, eqb-true}
use Rattle.link_inner.proofs.Tables.{blank-is}
use Rattle.types.specs.Capacities.{most_rules}
use Rattle.lists.specs.Lists.{◌∈◌, all, every, pad}
use Rattle.lists.proofs.Members.{and_both, every-cons, every-make, every-nil}
use Rattle.lists.proofs.Places.{laid-length, pad-view}
use Rattle.types.specs.declared.Rule.{Rule}
use Rattle.rules.specs.WellFormed.{zero_command, unused, sound}
use Rattle.link_inner.specs.declared.Table.{Table}
use Rattle.link_inner.specs.Views.{rules_of, blank_rule, table_ok}
use Rattle.link_inner.specs.Views.{zero_rule, table_as, zero_table}
use Rattle.sys_system.specs.Views.{TableLaid, table_laid, blank_table}
use Rattle.sys_system.proofs.Types.{TableTyped}

-- ---- what stands in places that are not used
-- A test that only z passes, of elements that have a shape.
module _ {A : Type 0} (p : A → Bool) (z : A) where
  pub all_same : (l : List A) → ((x : A) → x ∈ l → p x ≡ true → x ≡ z) → all p l ≡ true → l ≡ replicate (length l) z
  unfolding all
  all_same [] f e = refl
  all_same (x ∷ l) f e =
      let h = and_both (p x) _ e in
      let a = f x (Memᴰ.head refl) h.0 in let b = all_same l (λ y m. f y (Memᴰ.tail m)) h.1 in
      λ i. a i ∷ b i

-- An array that holds a list passes the test where it is not used, if what fills it does.
module _ {A : Type 0} (p : A → Bool) (z : A) (passes : p z ≡ true) where
  all-fill : (k : ℕ) → all p (replicate k z) ≡ true
  unfolding all
  all-fill zero = refl
  all-fill (suc k) = rw passes (all-fill k)

  pub pad-rest : (n : ℕ) (l : List A) → all p (drop (length l) (pad n z l)) ≡ true
  unfolding pad
  pad-rest n l = ap (all p) (drop_at l _ (length l) refl) ∙ all-fill (n - length l)

-- A place from some place on is a place.
pub drop-in : {A : Type 0} (n : ℕ) (l : List A) (x : A) → x ∈ drop n l → x ∈ l
drop-in {A} n l x m = subst (λ (k : List A). x ∈ k) (take-append-drop n l) (Memᴰ.append_right (take n l) m)

pub rest-same : {A : Type 0} (z : A) (n : ℕ) (es : List A) (used : ℕ) → length es ≡ n → used ≤ n → drop used es
    ≡ replicate (length (drop used es)) z
    → es ≡ pad n z (take used es)
unfolding pad
rest-same {A} z n es used h k e =
    let v = length-take-le used es (omega arith) in
    let m : length (drop used es) ≡ n - length (take used es) = omega (arith, length-drop used es) in
    sym (take-append-drop used es) ∙ ap (λ (l : List A). take used es ++ l) (e ∙ ap (λ (j : ℕ). replicate j z) m)

-- ---- a table
record Parts (t : Table) : Type 0 where
  fit : t.used ≤ most_rules
  rest : all blank_rule (drop t.used t.rules) ≡ true

parts-of : (t : Table) → table_laid t ≡ true → Parts t
unfolding table_laid
parts-of t e = let a = every-cons _ _ e in record { fit = leb-true _ _ a.0; rest = (every-cons _ _ a.1).0 }

pub table-laid : (t : Table) → TableTyped t → table_laid t ≡ true → TableLaid t
table-laid t y e =
    let p = parts-of t e in
    let r = rest-same zero_rule most_rules t.rules t.used y.room p.fit
    (all_same blank_rule zero_rule (drop t.used t.rules) (λ x m. blank-is x (y.slots x (drop-in t.used t.rules x m))) p.rest) in
    let n = sym (laid-length most_rules zero_rule t.rules t.used p.fit r) in
    λ i. record { rules = r i; used = n i }

-- The test of a table is that of its layout and of its rules.
pub table-parts : (t : Table) → table_ok t ≡ true → (table_laid t ≡ true) × (sound (rules_of t) ≡ true)
unfolding table_ok table_laid
table-parts t e = let a = every-cons _ _ e in let b = every-cons _ _ a.1 in
    (every-make _ _ a.0 (every-make _ _ b.0 every-nil), (every-cons _ _ b.1).0)

pub table-make : (t : Table) → table_laid t ≡ true → sound (rules_of t) ≡ true → table_ok t ≡ true
unfolding table_ok table_laid
table-make t e h = let a = every-cons _ _ e in every-make _ _ a.0 (every-make _ _ (every-cons _ _ a.1).0 (every-make _ _ h every-nil))

-- A table with no rules is sound.
pub blank_ok : (t : Table) → t.used ≡ 0 → blank_table t ≡ table_ok t
unfolding blank_table table_laid table_ok sound all every
blank_ok t e = rw e (and-true (all blank_rule t.rules && true))

pub blank-laid : (t : Table) → blank_table t ≡ true → table_laid t ≡ true
unfolding blank_table
blank-laid t e = (every-cons _ _ (every-cons _ _ e).1).0

pub blank-table : (t : Table) → TableTyped t → blank_table t ≡ true → t ≡ zero_table
unfolding blank_table
blank-table t y e =
    let n = eqb-true t.used 0 (every-cons _ _ e).0 in
    table-laid t y (blank-laid t e) ∙ ap (λ (k : ℕ). table_as (take k t.rules)) n

-- ---- the struct of rules
pub rules-back : (rs : List Rule) → rules_of (table_as rs) ≡ rs
rules-back rs = pad-view most_rules zero_rule rs

pub table_fits : (rs : List Rule) → leb (length rs) most_rules ≡ true → table_laid (table_as rs) ≡ true
unfolding table_laid blank_rule unused zero_command all every
table_fits rs h = rw (h, pad-rest blank_rule zero_rule refl most_rules rs)

pub table_kept : (rs : List Rule) → sound rs ≡ true → table_laid (table_as rs) ≡ true
unfolding sound every
table_kept rs e = table_fits rs (and_both (leb (length rs) most_rules) _ e).0

pub zero-blank : blank_table zero_table ≡ true
unfolding blank_table sound all every
zero-blank = rw (table_kept [] refl)
