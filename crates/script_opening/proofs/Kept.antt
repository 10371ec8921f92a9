-- What is left after any reading of a script is what stands from the place on: it holds of one record, and of readings one after another.
-- Assumes nothing.
use Prim.Native.Nat.{ℕ, zero, suc}
use native.Mathlib.Omega.{arith}
use mathlib.Core.Path.{◌≡◌, refl, sym, ap, ◌∙◌}
use mathlib.Core.List.{List, [], ◌∷◌}
use lib.ListN.{length, drop}
use Rattle.layout.specs.Read.{Reading, read, bad_at, Reader, one, onward, joining, repeat}
use Rattle.types.specs.declared.Format.{Format}
use Rattle.rules.specs.Script.{Header, header_form, rule_count_form, rule_form, envelope_count_form, envelope_form, format_of, table_from, envelopes_from, lists_from}
use Rattle.rules.specs.Script.{opening_from}
use Rattle.script_opening.specs.Views.{Kept}
pub use Rattle.script_opening.proofs.Readings.{kept-one}

-- ---- first one reading, then another
pub record Both {A B : Type 0} (m : Reading A) (k : A → Reader B) (b : B) (ys : List ℕ) (q : ℕ) : Type 0 where
  pub value : A
  pub left : List ℕ
  pub place : ℕ
  pub first : m ≡ read value left place
  pub second : k value left place ≡ read b ys q

both_by
    : {A B : Type 0} (m n : Reading A) (k : A → Reader B) {b : B} {ys : List ℕ} {q : ℕ} → m ≡ n → onward n k ≡ read b ys q → Both m k b ys q
unfolding onward
both_by m (read a xs p) k h e = record { value = a; left = xs; place = p; first = h; second = e }
both_by m (bad_at p) k {b} {ys} {q} h e =
    let z : ◌≡◌ {A = ℕ} 0 1 = cc in absurd (omega arith)

pub both : {A B : Type 0} (m : Reading A) (k : A → Reader B) {b : B} {ys : List ℕ} {q : ℕ} → onward m k ≡ read b ys q → Both m k b ys q
both m k e = both_by m m k refl e

-- as many are read as were asked for
pub repeat-length
    : {A : Type 0} (f : Reader A) (n : ℕ) (xs : List ℕ) (p : ℕ) {l : List A} {ys : List ℕ} {q : ℕ} → repeat n f xs p ≡ read l ys q → length l ≡ n
unfolding repeat joining
repeat-length f zero xs p {l} {ys} {q} e =
    let x : [] ≡ l = cc in ap length (sym x)
repeat-length f (suc n) xs p {l} {ys} {q} e =
    let r = both (f xs p) (λ a zs k. onward (repeat n f zs k) (joining a)) e in
    let w = both (repeat n f r.left r.place) (joining r.value) r.second in
    let u : read (r.value ∷ w.value) w.left w.place ≡ read l ys q = w.second in
    let x : r.value ∷ w.value ≡ l = cc in
    sym (ap length x) ∙ ap suc (repeat-length f n r.left r.place w.first)

-- ---- what is left is what stands from the place on
kept_read : {A : Type 0} (a : A) → Kept (read a)
kept_read a s at b ys q e =
    let y : drop at s ≡ ys = cc in
    let z : at ≡ q = cc in
    sym y ∙ ap (λ (k : ℕ). drop k s) z

kept-onward : {A B : Type 0} (f : Reader A) (k : A → Reader B) → Kept f → ((a : A) → Kept (k a)) → Kept (λ xs p. onward (f xs p) k)
kept-onward {A} f k kf kk s at b ys q e =
    let r = both (f (drop at s) at) k e in
    let l : r.left ≡ drop r.place s = kf s at r.value r.left r.place r.first in
    kk r.value s r.place b ys q (ap (λ (xs : List ℕ). k r.value xs r.place) (sym l) ∙ r.second)

kept-joining : {A : Type 0} (a : A) (l : List A) → Kept (joining a l)
unfolding joining
kept-joining a l = kept_read (a ∷ l)

pub kept-repeat : {A : Type 0} (n : ℕ) (f : Reader A) → Kept f → Kept (repeat n f)
unfolding repeat
kept-repeat zero f kf = kept_read []
kept-repeat (suc n) f kf =
    kept-onward f (λ a ys q. onward (repeat n f ys q) (joining a)) kf (λ a. kept-onward (repeat n f) (joining a) (kept-repeat n f kf) (kept-joining a))

pub kept_table : (f : Format) → Kept (table_from f)
unfolding table_from
kept_table f =
    kept-onward (one rule_count_form) (λ c. repeat c (one (rule_form f))) (kept-one rule_count_form)
    (λ c. kept-repeat c (one (rule_form f)) (kept-one (rule_form f)))

pub kept-envelopes : (f : Format) → Kept (envelopes_from f)
unfolding envelopes_from
kept-envelopes f =
    kept-onward (one (envelope_count_form f)) (λ c. repeat c (one (envelope_form f))) (kept-one (envelope_count_form f))
    (λ c. kept-repeat c (one (envelope_form f)) (kept-one (envelope_form f)))

kept-lists : (f : Format) (h : Header) → Kept (lists_from f h)
unfolding lists_from
kept-lists f h =
    kept-onward (repeat h.actors (table_from f)) _ (kept-repeat h.actors (table_from f) (kept_table f))
    (λ ts. kept-onward (envelopes_from f) _ (kept-envelopes f) (λ es. kept_read _))

pub kept-opening : (known : List Format) → Kept (opening_from known)
unfolding opening_from
kept-opening known =
    kept-onward (one (header_form known)) (λ h. lists_from (format_of known h.version) h) (kept-one (header_form known))
    (λ h. kept-lists (format_of known h.version) h)
