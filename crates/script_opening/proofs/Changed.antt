-- A reading whose values are changed on the way reads the changed list: so tables are read as their structs.
-- Assumes nothing.
use Prim.Native.Nat.{ℕ, zero, suc}
use native.Mathlib.Omega.{arith}
use mathlib.Core.Path.{◌≡◌, refl, sym, ap, ◌∙◌}
use mathlib.Core.List.{List, map}
use lib.ListN.{drop}
use Rattle.types.specs.declared.Format.{Format}
use Rattle.layout.specs.Read.{Reading, read, bad_at, Reader, onward, joining, repeat}
use Rattle.rules.specs.Script.{table_from}
use Rattle.link_inner.specs.declared.Table.{Table}
use Rattle.link_inner.specs.Views.{table_as}
use Rattle.script_places.specs.Views.{same, result_of}
use Rattle.script_opening.specs.Views.{Kept}
use Rattle.script_opening.proofs.Kept.{kept_table}

module _ {A B : Type 0} (g : A → B) where
  abbrev pub changed : Reading A → Reading B
  changed (read a xs p) = read (g a) xs p
  changed (bad_at p) = bad_at p

  pub changed-result : (m : Reading A) → result_of g m ≡ result_of same (changed m)
  changed-result (read a xs p) = refl
  changed-result (bad_at p) = refl

  -- The value that was changed into b.
  pub record Before (m : Reading A) (b : B) (ys : List ℕ) (q : ℕ) : Type 0 where
    pub value : A
    pub reads : m ≡ read value ys q
    pub told : b ≡ g value

  pub before : (m : Reading A) {b : B} {ys : List ℕ} {q : ℕ} → changed m ≡ read b ys q → Before m b ys q
  before (read a xs p) {b} {ys} {q} e =
      let x : g a ≡ b = cc in
      let y : xs ≡ ys = cc in
      let z : p ≡ q = cc in
      record { value = a; reads = λ i. read a (y i) (z i); told = sym x }
  before (bad_at p) {b} {ys} {q} e =
      let z : ◌≡◌ {A = ℕ} 0 1 = cc in absurd (omega arith)

  pub before-bad : (m : Reading A) {q : ℕ} → changed m ≡ bad_at q → m ≡ bad_at q
  before-bad (read a xs p) {q} e = let z : ◌≡◌ {A = ℕ} 0 1 = cc in absurd (omega arith)
  before-bad (bad_at p) {q} e = let z : p ≡ q = cc in ap bad_at z

module _ {A B : Type 0} (g : A → B) (f : Reader A) where
  abbrev pub changing : Reader B
  changing xs p = changed g (f xs p)

  kept-changing : Kept f → Kept changing
  kept-changing kf s at b ys q e = go (f (drop at s) at) refl e
    where
      go : (m : Reading A) → f (drop at s) at ≡ m → changed g m ≡ read b ys q → ys ≡ drop q s
      go (read a xs p) h e =
          let y : xs ≡ ys = cc in
          let z : p ≡ q = cc in
          sym y ∙ kf s at a xs p h ∙ ap (λ (k : ℕ). drop k s) z
      go (bad_at p) h e = let z : ◌≡◌ {A = ℕ} 0 1 = cc in absurd (omega arith)

  joined : (a : A) (m : Reading (List A)) → onward (changed (map g) m) (joining (g a)) ≡ changed (map g) (onward m (joining a))
  unfolding onward joining
  joined a (read l xs p) = refl
  joined a (bad_at p) = refl

  -- so many, one after another: first one, then the others
  repeat-on
      : (n : ℕ) (m : Reading A) → ((xs : List ℕ) (p : ℕ) → repeat n changing xs p ≡ changed (map g) (repeat n f xs p))
      → onward (changed g m) (λ b ys q. onward (repeat n changing ys q) (joining b))
      ≡ changed (map g) (onward m (λ a ys q. onward (repeat n f ys q) (joining a)))
  unfolding onward
  repeat-on n (read a ys q) h = ap (λ (m : Reading (List B)). onward m (joining (g a))) (h ys q) ∙ joined a (repeat n f ys q)
  repeat-on n (bad_at q) h = refl

  pub repeat-changing : (n : ℕ) (xs : List ℕ) (p : ℕ) → repeat n changing xs p ≡ changed (map g) (repeat n f xs p)
  unfolding repeat
  repeat-changing zero xs p = refl
  repeat-changing (suc n) xs p = repeat-on n (f xs p) (repeat-changing n)

-- ---- tables as their structs
abbrev pub table_reader : Format → Reader Table
table_reader f = changing table_as (table_from f)

pub kept-tables : (f : Format) → Kept (table_reader f)
kept-tables f = kept-changing table_as (table_from f) (kept_table f)
