-- Why reading by places is right: what is left after a record is what stands from the next place on, so an answer that holds that place says
-- as much as the reading itself.
-- Assumes nothing.
use Prim.Native.Nat.{ℕ, suc, ◌+◌, ◌≤◌}
use native.Mathlib.Omega.{arith}
use mathlib.Core.Bool.{Bool, true, false}
use mathlib.Core.Path.{◌≡◌, refl, sym, ap, subst, ◌∙◌}
use mathlib.Core.List.{List, [], ◌∷◌, ◌++◌, append_assoc, append-nil}
use lib.Dec.{leb, eqb}
use lib.ListN.{drop}
use lib.Seq.{drop-drop}
use borrow.Author.Tests.{leb-true}
use Rattle.std.specs.Prelude.{Result, Ok, Err}
use Rattle.layout.specs.Bits.{field_at}
use Rattle.layout.specs.Form.{Form, filled, refuse, field, reached, Got, got, bad, follow, only, record_of}
use Rattle.layout.specs.Read.{Reading, read, bad_at, Reader, placed, one, onward, joining, repeat}
use Rattle.layout.proofs.Laws.{found}
use Rattle.lists.specs.Lists.{any, every}
use Rattle.lists.proofs.Members.{and_both}
use Rattle.types.specs.Capacities.{most_actors, most_rules}
use Rattle.types.specs.declared.Format.{Format}
use Rattle.rules.specs.Script.{header_ok, header_form, rule_count_form, envelope_count_form}
use Rattle.rules.specs.Script as script
use Rattle.script_places.specs.declared.BadAt.{BadAt}
use Rattle.script_places.specs.Views.{same, result_of}
use Rattle.script_opening.specs.Views.{Kept}

-- ---- one record: what is left is what stands from the next place on
module _ {A : Type 0} (s : List ℕ) (at : ℕ) where
  left-placed : (g : Got A) {a : A} {ys : List ℕ} {q : ℕ} → placed g (drop at s) at ≡ read a ys q → ys ≡ drop q s
  unfolding placed
  left-placed (got b n) {a} {ys} {q} e =
      let y : drop n (drop at s) ≡ ys = cc in
      let z : at + n ≡ q = cc in
      sym y ∙ drop-drop n at s ∙ ap (λ (k : ℕ). drop k s) z
  left-placed bad {a} {ys} {q} e =
      let z : ◌≡◌ {A = ℕ} 0 1 = cc in absurd (omega arith)

  pub left_is : (f : Form A) {a : A} {ys : List ℕ} {q : ℕ} → one f (drop at s) at ≡ read a ys q → ys ≡ drop q s
  unfolding one
  left_is f e = left-placed (record_of f (drop at s)) e

  bad-placed : (xs : List ℕ) (g : Got A) {q : ℕ} → placed g xs at ≡ bad_at q → q ≡ at
  unfolding placed
  bad-placed xs (got b n) {q} e =
      let z : ◌≡◌ {A = ℕ} 0 1 = cc in absurd (omega arith)
  bad-placed xs bad {q} e = cc

  -- a bad record is bad at its own place
  pub bad-is : (f : Form A) {q : ℕ} → one f (drop at s) at ≡ bad_at q → q ≡ at
  unfolding one
  bad-is f e = bad-placed (drop at s) (record_of f (drop at s)) e

pub kept-one : {A : Type 0} (f : Form A) → Kept (one f)
kept-one f s at a ys q e = left_is s at f e

-- ---- what an answer says of the reading: k is how it holds a value
-- The value that was read to give the answer b, q.
pub record Found {A B : Type 0} (k : A → B) (f : Reader A) (s : List ℕ) (at : ℕ) (b : B) (q : ℕ) : Type 0 where
  pub value : A
  pub reads : f (drop at s) at ≡ read value (drop q s) q
  pub told : b ≡ k value

abbrev held : {B : Type 0} → B → Result (B × ℕ) BadAt → B
held d (Ok x) = x.0
held d (Err e) = d

abbrev place : {B : Type 0} → Result (B × ℕ) BadAt → ℕ
place (Ok x) = x.1
place (Err e) = e.0

module _ {A B : Type 0} (k : A → B) (f : Reader A) (s : List ℕ) (at : ℕ) where
  found-by : (m : Reading A) → f (drop at s) at ≡ m → Kept f → {b : B} {q : ℕ} → Ok (b, q) ≡ result_of k m → Found k f s at b q
  found-by (read a ys p) h kept {b} {q} e =
      let y : p ≡ q = sym (ap place e) in
      record {
        value = a;
        reads = h ∙ ap (λ (zs : List ℕ). read a zs p) (kept s at a ys p h) ∙ ap (λ (j : ℕ). read a (drop j s) j) y;
        told = ap (held b) e;
      }
  found-by (bad_at p) h kept {b} {q} e =
      let z : ◌≡◌ {A = ℕ} 0 1 = cc in absurd (omega arith)

  missed-by : (m : Reading A) {e : BadAt} → Err e ≡ result_of k m → m ≡ bad_at e.0
  missed-by (read a ys p) {e} h = let z : ◌≡◌ {A = ℕ} 0 1 = cc in absurd (omega arith)
  missed-by (bad_at p) h = ap bad_at (sym (ap place h))

  pub found_is : Kept f → {b : B} {q : ℕ} → Ok (b, q) ≡ result_of k (f (drop at s) at) → Found k f s at b q
  found_is kept e = found-by (f (drop at s) at) refl kept e

  pub missed : {e : BadAt} → Err e ≡ result_of k (f (drop at s) at) → f (drop at s) at ≡ bad_at e.0
  missed h = missed-by (f (drop at s) at) h

-- a value that is held as it is
pub found_same
    : {A : Type 0} (f : Reader A) (s : List ℕ) (at : ℕ) → Kept f → {a : A} {q : ℕ} → Ok (a, q) ≡ result_of same (f (drop at s) at)
    → f (drop at s) at ≡ read a (drop q s) q
found_same {A} f s at kept {a} {q} e =
    let w = found_is same f s at kept e in w.reads ∙ ap (λ (x : A). read x (drop q s) q) (sym w.told)

-- ---- first one reading, then another
module _ {A B : Type 0} (k : A → Reader B) {m : Reading A} where
  pub then_read : {a : A} {xs : List ℕ} {p : ℕ} → m ≡ read a xs p → onward m k ≡ k a xs p
  unfolding onward
  then_read h = ap (λ (n : Reading A). onward n k) h

  pub then_bad : {p : ℕ} → m ≡ bad_at p → onward m k ≡ bad_at p
  unfolding onward
  then_bad h = ap (λ (n : Reading A). onward n k) h

-- ---- so many, one after another
module _ {A : Type 0} where
  -- what was read before, and what comes
  abbrev before : List A → List A → Reader (List A)
  before l m xs p = read (l ++ m) xs p

  abbrev pub gathered : List A → Reading (List A) → Reading (List A)
  gathered l m = onward m (before l)

  gathered-joining : (l : List A) (a : A) (m : Reading (List A)) → gathered l (onward m (joining a)) ≡ gathered (l ++ (a ∷ [])) m
  unfolding onward joining
  gathered-joining l a (read r xs p) = ap (λ (t : List A). read t xs p) (sym (append_assoc l (a ∷ []) r))
  gathered-joining l a (bad_at p) = refl

  pub gathered_none : (m : Reading (List A)) → m ≡ gathered [] m
  unfolding onward
  gathered_none (read r xs p) = refl
  gathered_none (bad_at p) = refl

  module _ (f : Reader A) (l : List A) (n : ℕ) (xs : List ℕ) (p : ℕ) where
    pub gathered-more
        : {a : A} {ys : List ℕ} {q : ℕ} → f xs p ≡ read a ys q → gathered l (repeat (suc n) f xs p) ≡ gathered (l ++ (a ∷ [])) (repeat n f ys q)
    unfolding repeat onward
    gathered-more {a} {ys} {q} h =
        ap (λ (m : Reading A). gathered l (onward m (λ b zs r. onward (repeat n f zs r) (joining b)))) h ∙ gathered-joining l a (repeat n f ys q)

    pub gathered-bad : {q : ℕ} → f xs p ≡ bad_at q → gathered l (repeat (suc n) f xs p) ≡ bad_at q
    unfolding repeat onward
    gathered-bad {q} h = ap (λ (m : Reading A). gathered l (onward m (λ b zs r. onward (repeat n f zs r) (joining b)))) h

  pub gathered-all : (f : Reader A) (l : List A) (xs : List ℕ) (p : ℕ) → gathered l (repeat 0 f xs p) ≡ read l xs p
  unfolding repeat onward
  gathered-all f l xs p = ap (λ (t : List A). read t xs p) (append-nil l)

-- ---- what holds of every value that a form may give holds of the one that is read
module _ {A : Type 0} (P : A → Type 0) where
  abbrev pub Gives : Form A → Type 0
  Gives (filled a) = P a
  Gives refuse = Unit
  Gives (field w k) = (v : ℕ) → Gives (k v)

  pub only-gives : (b : Bool) (f : Form A) → (b ≡ true → Gives f) → Gives (only b f)
  only-gives true f g = g refl
  only-gives false f g = tt

  follow-gives : (xs : List ℕ) (f : Form A) (at : ℕ) {a : A} {n : ℕ} → Gives f → follow xs f at ≡ reached a n → P a
  follow-gives xs (filled b) at {a} {n} g e =
      let x : b ≡ a = cc in subst P x g
  follow-gives xs refuse at {a} {n} g e =
      let z : ◌≡◌ {A = ℕ} 0 1 = cc in absurd (omega arith)
  follow-gives xs (field w k) at g e = follow-gives xs (k (field_at xs at w)) (at + w) (g (field_at xs at w)) e

  placed-gives : (f : Form A) (xs : List ℕ) (p : ℕ) (r : Got A) {a : A} {ys : List ℕ} {q : ℕ} → Gives f → record_of f xs ≡ r → placed r xs p
      ≡ read a ys q → P a
  unfolding placed
  placed-gives f xs p (got b n) {a} {ys} {q} g h e =
      let x : b ≡ a = cc in subst P x (follow-gives xs f 0 g (found f xs h).follows)
  placed-gives f xs p bad {a} {ys} {q} g h e =
      let z : ◌≡◌ {A = ℕ} 0 1 = cc in absurd (omega arith)

  pub one-gives : (f : Form A) (xs : List ℕ) (p : ℕ) {a : A} {ys : List ℕ} {q : ℕ} → Gives f → one f xs p ≡ read a ys q → P a
  unfolding one
  one-gives f xs p g e = placed-gives f xs p (record_of f xs) g refl e

-- a count is at most what its form allows
pub few-rules : (xs : List ℕ) (p : ℕ) {c : ℕ} {ys : List ℕ} {q : ℕ} → one rule_count_form xs p ≡ read c ys q → c ≤ most_rules
unfolding rule_count_form
few-rules xs p e = one-gives (λ n. n ≤ most_rules) rule_count_form xs p
    (λ n. only-gives (λ m. m ≤ most_rules) (leb n most_rules) (filled n) (leb-true n most_rules)) e

pub few-envelopes : (f : Format) (xs : List ℕ) (p : ℕ) {c : ℕ} {ys : List ℕ} {q : ℕ} → one (envelope_count_form f) xs p ≡ read c ys q
    → c ≤ f.most
unfolding envelope_count_form
few-envelopes f xs p e =
    one-gives (λ n. n ≤ f.most) (envelope_count_form f) xs p (λ n. only-gives (λ m. m ≤ f.most) (leb n f.most) (filled n) (leb-true n f.most)) e

-- a header has at most so many actors
pub few-actors : (known : List Format) (xs : List ℕ) (p : ℕ) {h : script.Header} {ys : List ℕ} {q : ℕ} → one (header_form known) xs p ≡ read h ys q
    → h.actors ≤ most_actors
unfolding header_form header_ok every
few-actors known xs p e =
    one-gives (λ (h : script.Header). h.actors ≤ most_actors) (header_form known) xs p
    (λ n k a z. only-gives (λ (h : script.Header). h.actors ≤ most_actors) (header_ok known n k a z) (filled (record { version = n; kind = k; actors = a }))
    (λ t.
    let u = (and_both (any (λ (f : Format). eqb n f.version) known) _ t).1 in
    let v = (and_both (leb k 2) _ u).1 in
    let w = (and_both (leb 1 a) _ v).1 in
    leb-true a most_actors (and_both (leb a most_actors) _ w).0))
    e
