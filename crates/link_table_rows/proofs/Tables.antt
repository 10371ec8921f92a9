-- The rows of a table, one after the other: those that are laid out are its rules, and the others are zero.
-- Assumes nothing.
use Prim.Native.Nat.{ℕ, suc, ◌+◌, ◌≤◌, ◌<◌}
use native.Mathlib.Omega.{arith}
use native.Mathlib.Numerals.{add-one}
use mathlib.Core.Path.{◌≡◌, refl, sym, ap, ◌∙◌, subst}
use mathlib.Core.Bool.{true}
use mathlib.Core.List.{List, [], ◌∷◌, ◌++◌, map, map-append}
use lib.ListN.{length, take, get_or, set, replicate, length-map, get_or-map}
use lib.Seq.{take-suc, take_at, get_or-take, length-take-le}
use borrow.Author.Count.{below_none, below_more}
use Rattle.lists.specs.Lists.{pad}
use Rattle.lists.proofs.Members.{all_in, get_in}
use Rattle.lists.proofs.Places.{append-pad, length-pad, get-any}
use Rattle.types.specs.Capacities.{most_rules}
use Rattle.types.specs.declared.Rule.{Rule}
use Rattle.rules.specs.WellFormed.{rule_ok}
use Rattle.rules.proofs.Formed.{sound-rules}
use Rattle.link_inner.specs.declared.Table.{Table}
use Rattle.link_inner.specs.Views.{rules_of, table_ok}
use Rattle.link_inner.proofs.Tables.{outside, table_is}
use Rattle.link_tables.specs.Rows.{rule_in, RowLaid, TableLaid, rules_in}
use Rattle.link_table_rows.specs.Layout.{row_of, Laid}

abbrev zeros : List ℕ
zeros = replicate 16 0

-- The row of a rule is the rule, and is laid out.
abbrev Back : Rule → Type 0
Back r = (rule_in (row_of r) ≡ r) × RowLaid (row_of r)

back : (l : List Rule) → ((i : ℕ) → i < length l → Back (get_or l i outside)) → map rule_in (map row_of l) ≡ l
back [] f = refl
back (x ∷ l) f = let a = (f 0 (omega arith)).0 in let b = back l (λ i h. f (suc i) (omega arith)) in λ j. a j ∷ b j

abbrev rows : List Rule → ℕ → List (List ℕ)
rows rs n = map row_of (take n rs)

-- The first n are laid out.
pub record Filled (rs : List Rule) (n : ℕ) (out : List (List ℕ)) : Type 0 where
  pub filled : out ≡ pad most_rules zeros (rows rs n)
  pub good : (i : ℕ) → i < n → Back (get_or rs i outside)

module _ (rs : List Rule) (room : length rs ≡ most_rules) where
  count : (n : ℕ) → n ≤ most_rules → length (rows rs n) ≡ n
  count n h = length-map (take n rs) row_of ∙ length-take-le n rs (omega arith)

  pub laid_none : Filled rs 0 (replicate most_rules zeros)
  unfolding pad
  laid_none = record { filled = refl; good = below_none _ }

  one_more : (n : ℕ) → n < most_rules → rows rs (n + 1) ≡ rows rs n ++ row_of (get_or rs n outside) ∷ []
  one_more n h = rw (add-one n, take-suc rs n outside (omega arith)) (map-append row_of (take n rs) (get_or rs n outside ∷ []))

  laid_next : (n : ℕ) (out : List (List ℕ)) (x : List ℕ) → n < most_rules → Filled rs n out → rule_ok (get_or rs n outside) ≡ true
      → Laid (get_or rs n outside) x → Filled rs (n + 1) (set out n x)
  laid_next n out x h l ok p = record {
    filled =
        ap (λ (o : List (List ℕ)). set o n x) l.filled
        ∙ ap (λ (k : ℕ). set (pad most_rules zeros (rows rs n)) k x) (sym (count n (omega arith)))
        ∙ append-pad most_rules (rows rs n) x zeros (omega (arith, count n (omega arith)))
        ∙ ap (pad most_rules zeros) (ap (λ (y : List ℕ). rows rs n ++ y ∷ []) p.is ∙ sym (one_more n h));
    good = below_more _ n l.good (ap rule_in (sym p.is) ∙ (p.good ok).0, subst RowLaid p.is (p.good ok).1);
  }

pub used_fit : (t : Table) → table_ok t ≡ true → t.used ≤ most_rules
used_fit t ok = (table_is t ok).fit

module _ (t : Table) (room : length t.rules ≡ most_rules) (ok : table_ok t ≡ true) where
  fit : t.used ≤ most_rules
  fit = used_fit t ok

  pub all-used : t.used ≡ length (rules_of t)
  all-used = let u = fit in sym (length-take-le t.used t.rules (omega arith))

  rule-ok : (i : ℕ) → i < length (rules_of t) → rule_ok (get_or (rules_of t) i outside) ≡ true
  rule-ok i h = all_in rule_ok (rules_of t) (sound-rules (rules_of t) (table_is t ok).good) (get_or (rules_of t) i outside) (get_in (rules_of t) i outside h)

  -- A turn of the loop.
  pub one_laid : (i : ℕ) (out : List (List ℕ)) (x : List ℕ) → i < length (rules_of t) → Filled t.rules i out → Laid (get_or (rules_of t) i outside) x
      → Filled t.rules (i + 1) (set out i x)
  one_laid i out x h l p =
      let u = fit in
      let n = all-used in
      let e : get_or (rules_of t) i outside ≡ get_or t.rules i outside = get_or-take t.used t.rules i outside (omega arith) in
      laid_next t.rules room i out x (omega arith) l (ap rule_ok (sym e) ∙ rule-ok i h) (subst (λ (r : Rule). Laid r x) e p)

  module _ (out : List (List ℕ)) (l : Filled t.rules t.used out) where
    used-rows : take t.used out ≡ rows t.rules t.used
    unfolding pad
    used-rows = ap (take t.used) l.filled ∙ take_at (rows t.rules t.used) _ t.used (count t.rules room t.used fit)

    row_at : (i : ℕ) → i < t.used → get_or out i [] ≡ row_of (get_or t.rules i outside)
    row_at i h =
        sym (get_or-take t.used out i [] h) ∙ ap (λ (o : List (List ℕ)). get_or o i []) used-rows
        ∙ get-any (rows t.rules t.used) i [] (row_of outside) (omega (arith, count t.rules room t.used fit))
        ∙ get_or-map row_of (take t.used t.rules) i outside ∙ ap row_of (get_or-take t.used t.rules i outside h)

    pub laid_out : (rules_in out t.used ≡ rules_of t) × TableLaid out t.used × (out ≡ pad most_rules zeros (rows t.rules t.used))
    laid_out =
        let u = fit in
        let n = count t.rules room t.used u in
        let size = ap length l.filled ∙ length-pad most_rules zeros (rows t.rules t.used) (omega arith) in
        let m = length-take-le t.used t.rules (omega arith) in (
          ap (map rule_in) used-rows ∙ back (rules_of t) (λ i h. rw (get_or-take t.used t.rules i outside (omega arith)) (l.good i (omega arith))),
          record { room = size; fit = omega arith; rows = λ i h. subst RowLaid (sym (row_at i h)) (l.good i h).1 },
          l.filled,
        )
