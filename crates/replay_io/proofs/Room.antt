-- Every output fits into the buffer for it: the run's by the bound of `replay_script`, and `bad PLACE` since the place lies in the script.
-- Assumes nothing.
use Prim.Native.Nat.{ℕ, zero, suc, ◌+◌, ◌≤◌, ◌<◌}
use native.Mathlib.Omega.{arith}
use mathlib.Core.Path.{◌≡◌, refl, sym, ap, ◌∙◌, subst}
use mathlib.Core.Bool.{Bool, true, false}
use mathlib.Core.List.{List, [], ◌∷◌, ◌++◌}
use lib.Dec.{leb}
use lib.ListN.{length, take, drop, length-drop, length-append}
use lib.Seq.{take_at}
use borrow.Author.Tests.{le-leb}
use Rattle.std.specs.Counts.{IsPrefixLen}
use Rattle.std.proofs.lemmas.List.{length-take-le}
use Rattle.lists.specs.Lists.{choose}
use Rattle.layout.specs.Form.{Form, Got, got, bad, record_of}
use Rattle.layout.specs.Read.{Reading, read, bad_at, Reader, placed, one, onward, joining, repeat}
use Rattle.layout.proofs.Laws.{record-fits}
use Rattle.types.specs.Capacities.{most_bytes}
use Rattle.types.specs.declared.Action.{Action}
use Rattle.types.specs.declared.Format.{Format}
use Rattle.rules.specs.Outcome.{base}
use Rattle.rules.specs.Script.{versions, format_of, Item, end, item, Script, header_form, rule_count_form, rule_form, envelope_count_form, envelope_form, lists_from}
use Rattle.rules.specs.Script.{opening_from}
use Rattle.rules.specs.Script.{action_form, table_from, envelopes_from, closed, after_item, actions_within, actions_from, script_from, read_script}
use Rattle.rules.specs.Program.{bad_word, line, replay}
use Rattle.script_places.specs.declared.BadAt.{BadAt}
use Rattle.std.specs.Prelude.{Result, Ok, Err}
use Rattle.script_check.specs.Views.{layout_of}
use Rattle.script_check.proofs.Says.{same_place}
use Rattle.script_check.proofs.Whole.{parts-of}
use Rattle.replay_lines.proofs.Laws.{length-line}
use Rattle.replay_script.proofs.Laws.{good-longest, told-bad}

-- ---- the place of a bad record lies in the script
-- What is left of a reading ends where the script ends, at this place; a bad one's place is not beyond it.
abbrev Inside : {A : Type 0} → ℕ → Reading A → Type 0
Inside e (read a ys q) = q + length ys ≡ e
Inside e (bad_at q) = q ≤ e

abbrev Stays : {A : Type 0} → Reader A → Type 0
Stays f = (xs : List ℕ) (p : ℕ) → Inside (p + length xs) (f xs p)

stays-placed : {A : Type 0} (f : Form A) (xs : List ℕ) (p : ℕ) (g : Got A) → record_of f xs ≡ g → Inside (p + length xs) (placed g xs p)
unfolding placed
stays-placed f xs p (got a n) h = omega (arith, record-fits f xs h, length-drop n xs)
stays-placed f xs p bad h = omega arith

stays-one : {A : Type 0} (f : Form A) → Stays (one f)
unfolding one
stays-one f xs p = stays-placed f xs p (record_of f xs) refl

stays-onward : {A B : Type 0} (f : Reader A) (k : A → Reader B) → Stays f → ((a : A) → Stays (k a)) → Stays (λ xs p. onward (f xs p) k)
unfolding onward
stays-onward {A} {B} f k sf sk xs p = go (f xs p) (sf xs p)
  where
    go : (m : Reading A) → Inside (p + length xs) m → Inside (p + length xs) (onward m k)
    go (read a ys q) h = subst (λ (e : ℕ). Inside e (k a ys q)) h (sk a ys q)
    go (bad_at q) h = h

stays-joining : {A : Type 0} (a : A) (l : List A) → Stays (joining a l)
unfolding joining
stays-joining a l xs p = refl

stays-repeat : {A : Type 0} (n : ℕ) (f : Reader A) → Stays f → Stays (repeat n f)
unfolding repeat
stays-repeat zero f s = λ xs p. refl
stays-repeat (suc n) f s =
    stays-onward f (λ a ys q. onward (repeat n f ys q) (joining a)) s (λ a. stays-onward (repeat n f) (joining a) (stays-repeat n f s) (stays-joining a))

-- so many records of a form as a count says
stays-counted : {A : Type 0} (f : Form ℕ) (g : Form A) → Stays (λ xs p. onward (one f xs p) (λ c. repeat c (one g)))
stays-counted f g = stays-onward (one f) (λ c. repeat c (one g)) (stays-one f) (λ c. stays-repeat c (one g) (stays-one g))

stays_closed : Stays closed
unfolding closed
stays_closed [] p = refl
stays_closed (x ∷ xs) p = omega arith

stays-item : (i : Item) (more : Reader (List Action)) → Stays more → Stays (after_item i more)
unfolding after_item
stays-item end more s = stays_closed
stays-item (item a) more s = stays-onward more (joining a) s (stays-joining a)

module _ (f : Format) where
  stays-table : Stays (table_from f)
  unfolding table_from
  stays-table = stays-counted rule_count_form (rule_form f)

  stays-envelopes : Stays (envelopes_from f)
  unfolding envelopes_from
  stays-envelopes = stays-counted (envelope_count_form f) (envelope_form f)

  stays_within : (k : ℕ) → Stays (actions_within k f)
  unfolding actions_within
  stays_within zero = λ xs p. omega arith
  stays_within (suc k) =
      stays-onward
      (one (action_form f))
      (λ i. after_item i (actions_within k f))
      (stays-one (action_form f))
      (λ i. stays-item i (actions_within k f) (stays_within k))

  stays-actions : Stays (actions_from f)
  unfolding actions_from
  stays-actions xs p = stays_within (suc (length xs)) xs p

module _ (known : List Format) where
  stays-opening : Stays (opening_from known)
  unfolding opening_from lists_from
  stays-opening =
      stays-onward (one (header_form known)) _ (stays-one (header_form known)) (λ h.
      let f = format_of known h.version in
      stays-onward (repeat h.actors (table_from f)) _ (stays-repeat h.actors (table_from f) (stays-table f)) (λ ts.
      stays-onward (envelopes_from f) _ (stays-envelopes f) (λ es xs p. refl)))

  stays-script : Stays (script_from known)
  unfolding script_from
  stays-script =
      stays-onward (opening_from known) _ stays-opening (λ o.
      stays-onward (actions_from (format_of known o.version)) _ (stays-actions (format_of known o.version)) (λ l xs p. refl))

  inside : (s : List ℕ) → Inside (length s) (read_script known s)
  unfolding read_script choose
  inside s = go (leb (length s) most_bytes)
    where
      go : (b : Bool) → Inside (length s) (choose b (script_from known s 0) (bad_at 0))
      go true = subst (λ (e : ℕ). Inside e (script_from known s 0)) (omega arith) (stays-script s 0)
      go false = omega arith

-- ---- the output
place_in : (s : List ℕ) (p : ℕ) → layout_of (read_script versions s) ≡ Err (record { 0 = p }) → p ≤ length s
place_in s p h = go (read_script versions s) (inside versions s) h
  where
    go : (m : Reading Script) → Inside (length s) m → layout_of m ≡ Err (record { 0 = p }) → p ≤ length s
    go (read a ys q) i e = let z : ◌≡◌ {A = ℕ} 0 1 = cc in absurd (omega arith)
    go (bad_at q) i e = let z : q ≡ p = same_place e in omega arith

bad-size : (s : List ℕ) (p : ℕ) → layout_of (read_script versions s) ≡ Err (record { 0 = p }) → length (line bad_word (p ∷ []))
    ≡ length (replay base versions s)
bad-size s p h =
    (told-bad s p {out = []} {left = choose (leb n 0) (line bad_word (p ∷ []) ++ drop n []) []} {r = n} h (record { size = refl; bytes = refl })).size
  where
    n : ℕ
    n = length (line bad_word (p ∷ []))

bad-fits
    : (s : List ℕ) (p : ℕ) → length s < 18446744073709551616 → layout_of (read_script versions s) ≡ Err (record { 0 = p })
    → length (replay base versions s) ≤ 1507488
bad-fits s p k h =
    let l = length-line bad_word (p ∷ []) (omega (arith, place_in s p h), tt) (omega arith) in
    omega (arith, bad-size s p h, l)

pub output-fits : (s : List ℕ) → length s < 18446744073709551616 → length (replay base versions s) ≤ 1507488
output-fits s k = go (layout_of (read_script versions s)) refl
  where
    go : (l : Result Unit BadAt) → layout_of (read_script versions s) ≡ l → length (replay base versions s) ≤ 1507488
    go (Ok u) h = let p = parts-of versions s h in omega (arith, p.short, good-longest s p)
    go (Err e) h = bad-fits s e.0 k h

-- ---- the output, at the start of a buffer in which it fits
pub put_all
    : (l out left : List ℕ) (r : ℕ) → length l ≤ length out → r ≡ length l → left ≡ choose (leb r (length out)) (l ++ drop r out) out
    → IsPrefixLen r left × (take r left ≡ l)
unfolding choose
put_all l out left r h e b =
    let f : left ≡ l ++ drop r out = b ∙ rw (le-leb r (length out) (omega arith)) in
    let n = ap length f ∙ length-append l (drop r out) in
    (let m : r ≤ length left = omega arith in (m, sym (length-take-le r left m)), ap (take r) f ∙ take_at l (drop r out) r (sym e))
