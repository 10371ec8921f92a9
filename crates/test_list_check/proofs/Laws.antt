-- The sizes of parts and pairs, the comparison of two lists, and a turn of the walk.
-- Assumes nothing.
use Prim.Native.Nat.{ℕ, zero, suc, ◌+◌, ◌-◌, ◌≤◌, ◌<◌}
use native.Mathlib.Omega.{arith}
use mathlib.Core.Path.{◌≡◌, refl, sym, ap, ap₂, ◌∙◌, subst}
use mathlib.Core.Bool.{Bool, true, false, ◌&&◌}
use mathlib.Core.Logic.{◌⊎◌, inl, inr}
use mathlib.Core.List.{List, [], ◌∷◌, ◌++◌}
use lib.ListN.{length, take, drop, length-drop}
use lib.Seq.{take_at, take_all, drop-drop}
use lib.Dec.{leb, eqb}
use lib.Pointwise.{pointwise}
use borrow.Author.Tests.{eqb-false, leb-true, le-leb, lt-leb, eq-eqb, ne_eqb}
use Rattle.std.specs.Prelude.{Option, Some}
use Rattle.std.specs.Option.{option_or}
use Rattle.lists.specs.Lists.{choose}
use Rattle.layout.specs.Bits.{field_at}
use Rattle.rules.specs.Outcome.{base}
use Rattle.rules.specs.Script.{versions}
use Rattle.rules.specs.Program.{replay}
use Rattle.test_list_check.specs.declared.Tally.{Tally}
use Rattle.test_list_check.specs.List.{large, part_size, second, pair_size, IsPart, IsPair, equal, agrees, right, counted, walk}

-- ---- sizes
module _ (l : List ℕ) where
  pub part-fits : {n : ℕ} → n ≡ field_at l 0 32 → 4 + n ≤ length l → 4 + n ≡ part_size l
  unfolding part_size choose
  part-fits {n} e h =
      let k : 4 + field_at l 0 32 ≤ length l = omega arith in
      ap (λ (m : ℕ). 4 + m) e ∙ sym (ap (λ (b : Bool). choose b (4 + field_at l 0 32) 0) (le-leb (4 + field_at l 0 32) (length l) k))

  pub part_cut : {n : ℕ} → n ≡ field_at l 0 32 → length l < 4 + n → 0 ≡ part_size l
  unfolding part_size choose
  part_cut {n} e h =
      let k : length l < 4 + field_at l 0 32 = omega arith in
      sym (ap (λ (b : Bool). choose b (4 + field_at l 0 32) 0) (lt-leb (4 + field_at l 0 32) (length l) k))

-- No part, or one within the list.
pub part-is : (l : List ℕ) → (part_size l ≡ 0) ⊎ ((4 ≤ part_size l) × (part_size l ≤ length l))
unfolding part_size choose
part-is l = go (leb (4 + field_at l 0 32) (length l)) refl
  where
    go : (b : Bool) → leb (4 + field_at l 0 32) (length l) ≡ b
        → (choose b (4 + field_at l 0 32) 0 ≡ 0) ⊎ ((4 ≤ choose b (4 + field_at l 0 32) 0) × (choose b (4 + field_at l 0 32) 0 ≤ length l))
    go true e = inr (omega arith, leb-true _ _ e)
    go false e = inl refl

pub part-within : (l : List ℕ) → part_size l ≤ length l
part-within l = elim (part-is l) [ inl e ↦ omega arith | inr h ↦ h.1 ]

pub part-there : (l : List ℕ) → 0 < part_size l → 4 ≤ part_size l
part-there l h = elim (part-is l) [ inl e ↦ absurd (omega arith) | inr k ↦ k.0 ]

module _ (l : List ℕ) where
  -- Both parts are there, or the pair is cut.
  pub data Sized : ℕ → Type 0 where
    cut : Sized 0
    whole : 0 < part_size l → 0 < part_size (second l) → Sized (part_size l + part_size (second l))

  pub no-script : part_size l ≡ 0 → 0 ≡ pair_size l
  unfolding pair_size choose
  no-script e = sym (ap (λ (b : Bool). choose b 0 (choose (eqb (part_size (second l)) 0) 0 (part_size l + part_size (second l)))) (eq-eqb (part_size l) 0 e))

  past-script : (part_size l ≡ 0 → ⊥) → pair_size l ≡ choose (eqb (part_size (second l)) 0) 0 (part_size l + part_size (second l))
  unfolding pair_size choose
  past-script n = ap (λ (b : Bool). choose b 0 (choose (eqb (part_size (second l)) 0) 0 (part_size l + part_size (second l)))) (ne_eqb (part_size l) 0 n)

  pub no_output : (part_size l ≡ 0 → ⊥) → part_size (second l) ≡ 0 → 0 ≡ pair_size l
  unfolding choose
  no_output n e = sym (past-script n ∙ ap (λ (b : Bool). choose b 0 (part_size l + part_size (second l))) (eq-eqb (part_size (second l)) 0 e))

  pub both : (part_size l ≡ 0 → ⊥) → (part_size (second l) ≡ 0 → ⊥) → part_size l + part_size (second l) ≡ pair_size l
  unfolding choose
  both n k = sym (past-script n ∙ ap (λ (b : Bool). choose b 0 (part_size l + part_size (second l))) (ne_eqb (part_size (second l)) 0 k))

  pub sized : Sized (pair_size l)
  unfolding pair_size choose
  sized = go (eqb (part_size l) 0) (eqb (part_size (second l)) 0) refl refl
    where
      go : (a b : Bool) → eqb (part_size l) 0 ≡ a → eqb (part_size (second l)) 0 ≡ b
          → Sized (choose a 0 (choose b 0 (part_size l + part_size (second l))))
      go true b e f = cut
      go false true e f = cut
      go false false e f =
          let x = eqb-false (part_size l) 0 e in
          let y = eqb-false (part_size (second l)) 0 f in
          whole (omega arith) (omega arith)

  pub sum-within : part_size l + part_size (second l) ≤ length l
  sum-within = omega (arith, part-within l, part-within (second l), length-drop (part_size l) l)

  within : {n : ℕ} → Sized n → n ≤ length l
  within cut = omega arith
  within (whole a b) = sum-within

  pub pair-within : pair_size l ≤ length l
  pair-within = within sized

  there : {n : ℕ} → Sized n → 0 < n → (4 ≤ part_size l) × (4 ≤ part_size (second l))
  there cut h = absurd (omega arith)
  there (whole a b) h = (part-there l a, part-there (second l) b)

  pub pair-there : 0 < pair_size l → (4 ≤ part_size l) × (4 ≤ part_size (second l))
  pair-there h = there sized h

-- ---- parts and pairs as slices
pub part_made : (l : List ℕ) {n : ℕ} → n ≡ field_at l 0 32 → 4 + n ≤ length l
    → IsPart l (take (4 + n - 4) (drop 4 l)) (take (length l - (4 + n)) (drop (4 + n) l))
part_made l {n} e h =
    let p = part-fits l e h in
    record {
      there = omega (arith, p);
      inside = ap (λ (k : ℕ). take (k - 4) (drop 4 l)) p;
      behind = take_all (length l - (4 + n)) (drop (4 + n) l) (omega (arith, length-drop (4 + n) l)) ∙ ap (λ (k : ℕ). drop k l) p;
    }

module _ {l script behind : List ℕ} (p : IsPart l script behind) where
  there_first : part_size l ≡ 0 → ⊥
  there_first e = let h = p.there in omega arith

  pub none_behind : part_size behind ≡ 0 → pair_size l ≡ 0
  none_behind e = sym (no_output l there_first (sym (ap part_size p.behind) ∙ e))

  pub pair_made : {output rest : List ℕ} → IsPart behind output rest → IsPair l script output rest
  pair_made {output} {rest} q =
      let r : IsPart (second l) output rest = subst (λ (k : List ℕ). IsPart k output rest) p.behind q in
      let e = both l there_first (λ z. let h = r.there in omega arith) in
      record {
        there = omega (arith, e, p.there);
        first = p.inside;
        next = r.inside;
        behind = r.behind ∙ drop-drop (part_size (second l)) (part_size l) l ∙ ap (λ (k : ℕ). drop k l) e;
      }

pub no_part : (l : List ℕ) → part_size l ≡ 0 → pair_size l ≡ 0
no_part l e = sym (no-script l e)

-- ---- comparing
pointwise-equal : (l m : List ℕ) → pointwise eqb l m ≡ equal l m
unfolding equal
pointwise-equal [] [] = refl
pointwise-equal [] (y ∷ m) = refl
pointwise-equal (x ∷ l) [] = refl
pointwise-equal (x ∷ l) (y ∷ m) = ap (λ (b : Bool). eqb x y && b) (pointwise-equal l m)

-- What the replay left at the start of a buffer that it fits.
took : (w out left : List ℕ) (r : ℕ) → r ≡ length w → r ≤ length out → left ≡ choose (leb r (length out)) (w ++ drop r out) out → take r left
    ≡ w
unfolding choose
took w out left r e h k =
    ap (λ (x : List ℕ). take r x) (k ∙ ap (λ (b : Bool). choose b (w ++ drop r out) out) (le-leb r (length out) h)) ∙ take_at w (drop r out) r (sym e)

module _ (script stored : List ℕ) where
  pub too_long : {r : ℕ} → r ≡ length (replay base versions script) → large < r → false ≡ agrees script stored
  unfolding agrees
  too_long {r} e h =
      let k : large < length (replay base versions script) = omega arith in
      sym (ap (λ (b : Bool). b && equal (replay base versions script) stored) (lt-leb (length (replay base versions script)) large k))

  pub compared : {r : ℕ} {b : Bool} (out left : List ℕ) → large ≡ length out → r ≡ length (replay base versions script) → r ≤ large
      → left ≡ choose (leb r (length out)) (replay base versions script ++ drop r out) out
      → b ≡ pointwise eqb (take r left) stored → b ≡ agrees script stored
  unfolding agrees
  compared {r} {b} out left n e h k p =
      let q : length (replay base versions script) ≤ large = omega arith in
      let w = took (replay base versions script) out left r e (omega arith) k in
      p ∙ pointwise-equal (take r left) stored ∙ ap (λ (l : List ℕ). equal l stored) w
      ∙ sym (ap (λ (c : Bool). c && equal (replay base versions script) stored) (le-leb (length (replay base versions script)) large q))

-- ---- counting
module _ (t : Tally) where
  pub counted-right : {b : Bool} → b ≡ true → record { scripts = t.scripts + 1; differ = t.differ; first = t.first } ≡ counted t b
  unfolding counted
  counted-right e = rw e

  pub counted-wrong : {b : Bool} {f : Option ℕ} → b ≡ false → f ≡ option_or t.first (Some (t.scripts + 1))
      → record { scripts = t.scripts + 1; differ = t.differ + 1; first = f } ≡ counted t b
  unfolding counted
  counted-wrong e h = rw (e, h)

pub counted-scripts : (t : Tally) (b : Bool) → (counted t b).scripts ≡ t.scripts + 1
unfolding counted
counted-scripts t true = refl
counted-scripts t false = refl

pub counted-differ : (t : Tally) (b : Bool) → t.differ ≤ t.scripts → (counted t b).differ ≤ t.scripts + 1
unfolding counted
counted-differ t true h = omega arith
counted-differ t false h = omega arith

-- ---- the walk
pub walk_end : (l : List ℕ) (t : Tally) → length l ≤ 0 → walk 0 l t ≡ t
unfolding walk
walk_end [] t h = refl
walk_end (x ∷ l) t h = absurd (omega arith)

pub walk-cut : (l : List ℕ) (t : Tally) → 0 < length l → pair_size l ≡ 0 → walk 0 l t ≡ counted t false
unfolding walk choose
walk-cut [] t h e = absurd (omega arith)
walk-cut (x ∷ l) t h e = rw (eq-eqb (pair_size (x ∷ l)) 0 e)

walk-drop : (n : ℕ) (l : List ℕ) (t : Tally) → walk n l t ≡ walk 0 (drop n l) t
unfolding walk
walk-drop zero l t = refl
walk-drop (suc n) [] t = refl
walk-drop (suc n) (x ∷ l) t = walk-drop n l t

drop-pred : (n x : ℕ) (l : List ℕ) → 0 < n → drop (n - 1) l ≡ drop n (x ∷ l)
drop-pred zero x l h = absurd (omega arith)
drop-pred (suc n) x l h = let e : suc n - 1 ≡ n = omega arith in rw e

pub walk-on : (l : List ℕ) (t : Tally) → 0 < pair_size l → walk 0 l t ≡ walk 0 (drop (pair_size l) l) (counted t (right l))
unfolding walk choose
walk-on [] t h = absurd (omega (arith, pair-within []))
walk-on (x ∷ l) t h =
    let n : pair_size (x ∷ l) ≡ 0 → ⊥ = λ e. omega arith in
    let c = counted t (right (x ∷ l)) in
    rw (ne_eqb (pair_size (x ∷ l)) 0 n) (walk-drop (pair_size (x ∷ l) - 1) l c ∙ ap (λ (k : List ℕ). walk 0 k c) (drop-pred (pair_size (x ∷ l)) x l h))

-- ---- a turn
pub shorter : {l script output rest : List ℕ} → IsPair l script output rest → length rest < length l
shorter {l} p = omega (arith, p.there, pair-within l, ap length p.behind, length-drop (pair_size l) l)

pub turn : {l script output rest : List ℕ} (t : Tally) → IsPair l script output rest → walk 0 l t ≡ walk 0 rest (counted t (agrees script output))
unfolding right
turn {l} {script} {output} {rest} t p =
    walk-on l t p.there
    ∙ ap (λ (k : List ℕ). walk 0 k (counted t (right l))) (sym p.behind)
    ∙ ap (λ (b : Bool). walk 0 rest (counted t b)) (sym (ap₂ agrees p.first p.next))
