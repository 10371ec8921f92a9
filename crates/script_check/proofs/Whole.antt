-- A script that can be read, taken apart: its opening, the place where that ends, and the actions from there on.
-- Assumes nothing.
use Prim.Native.Nat.{ℕ, ◌≤◌, ◌<◌}
use native.Mathlib.Omega.{arith}
use mathlib.Core.Bool.{Bool, true, false}
use Rattle.std.specs.Prelude.{Ok, Err}
use mathlib.Core.Path.{◌≡◌, refl, sym, ap, ◌∙◌}
use mathlib.Core.List.{List}
use borrow.Author.Tests.{le-leb, lt-leb, leb-true}
use lib.Dec.{leb}
use lib.ListN.{length, drop}
use Rattle.lists.specs.Lists.{choose}
use Rattle.types.specs.Capacities.{most_bytes}
use Rattle.types.specs.declared.Action.{Action}
use Rattle.types.specs.declared.Format.{Format}
use Rattle.layout.specs.Read.{Reading, read, bad_at, Reader, onward}
use Rattle.rules.specs.Script.{Opening, Script, format_of, opening_from, actions_from, script_of, script_from, read_script}
use Rattle.script_opening.specs.declared.Opening as held
use Rattle.script_opening.specs.Views.{opening_held, opening_read}
use Rattle.script_opening.proofs.Readings.{found_is}
use Rattle.script_opening.proofs.Kept.{kept-opening, both}
use Rattle.script_check.specs.Views.{layout_of}

module _ (known : List Format) (s : List ℕ) where
  abbrev format_in : Opening → Format
  format_in o = format_of known o.version

  abbrev behind : Opening → List Action → Reader Script
  behind o l zs r = read (script_of o l) zs r

  abbrev after : Opening → Reader Script
  after o ys q = onward (actions_from (format_in o) ys q) (behind o)

  layout-behind : (o : Opening) (m : Reading (List Action)) → layout_of (onward m (behind o)) ≡ layout_of m
  unfolding onward
  layout-behind o (read l xs p) = refl
  layout-behind o (bad_at p) = refl

  -- ---- the layout, by the opening
  pub opening-good
      : {o : Opening} {q : ℕ} → opening_from known s 0 ≡ read o (drop q s) q → layout_of (script_from known s 0)
      ≡ layout_of (actions_from (format_in o) (drop q s) q)
  unfolding script_from onward
  opening-good {o} {q} e = ap (λ (m : Reading Opening). layout_of (onward m after)) e ∙ layout-behind o (actions_from (format_in o) (drop q s) q)

  pub opening-bad : {q : ℕ} → opening_from known s 0 ≡ bad_at q → layout_of (script_from known s 0) ≡ Err (record { 0 = q })
  unfolding script_from onward
  opening-bad e = ap (λ (m : Reading Opening). layout_of (onward m after)) e

  -- As the answer that holds the opening says it.
  pub opening-layout
      : {o : held.Opening} {q : ℕ} {f : Format} → Ok (o, q) ≡ opening_read (opening_from known s 0) → f ≡ format_of known o.version
      → layout_of (actions_from f (drop q s) q) ≡ layout_of (script_from known s 0)
  opening-layout {o} {q} {f} e z =
      let w = found_is opening_held (opening_from known) s 0 (kept-opening known) e in
      let v = ap (λ (x : held.Opening). format_of known x.version) w.told in
      ap (λ (k : Format). layout_of (actions_from k (drop q s) q)) (z ∙ v) ∙ sym (opening-good {q = q} w.reads)

  -- ---- more bytes than a script has
  pub not-long : length s ≤ most_bytes → layout_of (read_script known s) ≡ layout_of (script_from known s 0)
  unfolding read_script choose
  not-long h = rw (le-leb _ _ h)

  pub too_long : most_bytes < length s → layout_of (read_script known s) ≡ Err (record { 0 = 0 })
  unfolding read_script choose
  too_long h = rw (lt-leb _ _ h)

  -- ---- what can be read
  pub record Parts : Type 0 where
    pub opening : Opening
    pub next : ℕ
    pub actions : List Action
    pub left : List ℕ
    pub place : ℕ
    pub short : length s ≤ most_bytes
    pub reads : read_script known s ≡ read (script_of opening actions) left place
    pub reads_opening : opening_from known s 0 ≡ read opening (drop next s) next
    pub reads_actions : actions_from (format_in opening) (drop next s) next ≡ read actions left place

  apart : {x : Script} {ys : List ℕ} {q : ℕ} → length s ≤ most_bytes → read_script known s ≡ script_from known s 0 → script_from known s 0
      ≡ read x ys q → Parts
  unfolding script_from
  apart {x} {ys} {q} h c e =
      let a = both (opening_from known s 0) after e in
      let la : a.left ≡ drop a.place s = kept-opening known s 0 a.value a.left a.place a.first in
      let b = both (actions_from (format_in a.value) a.left a.place) (behind a.value) a.second in
      record {
        opening = a.value;
        next = a.place;
        actions = b.value;
        left = b.left;
        place = b.place;
        short = h;
        reads = c ∙ e ∙ sym b.second;
        reads_opening = a.first ∙ ap (λ (xs : List ℕ). read a.value xs a.place) la;
        reads_actions = ap (λ (xs : List ℕ). actions_from (format_in a.value) xs a.place) (sym la) ∙ b.first;
      }

  parts-by : (b : Bool) (m : Reading Script) → leb (length s) most_bytes ≡ b → read_script known s ≡ m → layout_of m ≡ Ok tt → Parts
  unfolding read_script choose
  parts-by b (bad_at p) t e g = let z : ◌≡◌ {A = ℕ} 0 1 = cc in absurd (omega arith)
  parts-by true (read x ys q) t e g = apart (leb-true _ _ t) (rw t) (rw t at e)
  parts-by false (read x ys q) t e g =
      let f : bad_at 0 ≡ read x ys q = rw t at e in
      let z : ◌≡◌ {A = ℕ} 0 1 = cc in
      absurd (omega arith)

  -- A script whose layout is good, taken apart.
  pub parts-of : layout_of (read_script known s) ≡ Ok tt → Parts
  parts-of g = parts-by (leb (length s) most_bytes) (read_script known s) refl refl g
