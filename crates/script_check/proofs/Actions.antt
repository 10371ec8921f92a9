-- Why the actions may be read one after another by their places: every action has a byte, so no more of them are left than bytes, and what
-- is left after one is what stands from the next place on.
-- Assumes nothing.
use Prim.Native.Nat.{ℕ, zero, suc, ◌+◌, ◌≤◌, ◌<◌}
use native.Mathlib.Omega.{arith}
use Rattle.std.specs.Prelude.{Some, None, Result, Ok, Err}
use mathlib.Core.Path.{◌≡◌, refl, sym, ap, ◌∙◌, subst}
use mathlib.Core.List.{List, [], ◌∷◌}
use lib.ListN.{length, drop, length-drop}
use Rattle.layout.specs.Form.{Form, Got, got, bad, record_of}
use Rattle.layout.specs.Read.{Reading, read, bad_at, Reader, placed, one, onward, joining}
use Rattle.types.specs.declared.Action.{Action}
use Rattle.types.specs.declared.Format.{Format}
use Rattle.rules.specs.Script.{Item, end, item, action_form, closed, after_item, actions_within, actions_from}
use Rattle.script_places.specs.declared.BadAt.{BadAt}
use Rattle.script_records.specs.Views.{action_held, action_read}
use Rattle.script_records.proofs.Laws.{Sized, action-sized}
use Rattle.script_opening.proofs.Readings.{found_is, missed}
use Rattle.script_opening.proofs.Kept.{kept-one, both}
use Rattle.script_check.specs.Views.{layout_of}

-- ---- a record that is read ends after its place
module _ {A : Type 0} (f : Form A) (xs : List ℕ) (p : ℕ) {a : A} {zs : List ℕ} {r : ℕ} (k : Sized xs f) where
  past-placed : (g : Got A) → record_of f xs ≡ g → placed g xs p ≡ read a zs r → (p < r) × (r ≤ p + length xs)
  unfolding placed
  past-placed (got b n) h e =
      let z : p + n ≡ r = cc in
      let t = k b n h in
      (omega (arith, t.0), omega (arith, t.1))
  past-placed bad h e = let z : ◌≡◌ {A = ℕ} 0 1 = cc in absurd (omega arith)

  past : one f xs p ≡ read a zs r → (p < r) × (r ≤ p + length xs)
  unfolding one
  past e = past-placed (record_of f xs) refl e

module _ (f : Format) where
  -- an action ends after its place and within the script
  pub span : (s : List ℕ) (at : ℕ) {i : Item} (r : ℕ) → one (action_form f) (drop at s) at ≡ read i (drop r s) r → (at < r) × (r ≤ length s)
      × (at < length s)
  span s at r h =
      let w = past (action_form f) (drop at s) at (action-sized f (drop at s)) h in
      let n = length-drop at s in
      (w.0, omega (arith, w.0, w.1, n), omega (arith, w.0, w.1, n))

  -- ---- any count of records above the length is enough
  same_item
      : (xs : List ℕ) (p : ℕ) (g : Got Item) (j h : Reader (List Action))
      → ((a : Action) (n : ℕ) → g ≡ got (item a) n → j (drop n xs) (p + n) ≡ h (drop n xs) (p + n))
      → onward (placed g xs p) (λ i. after_item i j) ≡ onward (placed g xs p) (λ i. after_item i h)
  unfolding onward placed after_item
  same_item xs p (got end n) j h e = refl
  same_item xs p (got (item a) n) j h e = ap (λ (m : Reading (List Action)). onward m (joining a)) (e a n refl)
  same_item xs p bad j h e = refl

  enough : (j k : ℕ) (xs : List ℕ) (p : ℕ) → length xs < j → length xs < k → actions_within j f xs p ≡ actions_within k f xs p
  unfolding actions_within one
  enough zero k xs p h l = absurd (omega arith)
  enough (suc j) zero xs p h l = absurd (omega arith)
  enough (suc j) (suc k) xs p h l =
      same_item xs p (record_of (action_form f) xs) (actions_within j f) (actions_within k f)
      (λ a n e.
      let s = action-sized f xs _ _ e in
      enough j k (drop n xs) (p + n) (omega (arith, length-drop n xs, s.0, s.1)) (omega (arith, length-drop n xs, s.0, s.1)))

  -- ---- the actions from a place on, by the first record there
  module _ (s : List ℕ) (at r : ℕ) where
    pub from-item
        : {a : Action} → one (action_form f) (drop at s) at ≡ read (item a) (drop r s) r
        → actions_from f (drop at s) at ≡ onward (actions_from f (drop r s) r) (joining a)
    unfolding actions_from actions_within onward after_item
    from-item {a} h =
        let w = span s at r h in
        let n : length (drop r s) < length (drop at s) = omega (arith, w.0, w.1, w.2, length-drop at s, length-drop r s) in
        ap (λ (m : Reading Item). onward m (λ i. after_item i (actions_within (length (drop at s)) f))) h
        ∙ ap (λ (m : Reading (List Action)). onward m (joining a))
        (enough (length (drop at s)) (suc (length (drop r s))) (drop r s) r n (omega arith))

    pub from_end : one (action_form f) (drop at s) at ≡ read end (drop r s) r → actions_from f (drop at s) at ≡ closed (drop r s) r
    unfolding actions_from actions_within onward after_item
    from_end h = ap (λ (m : Reading Item). onward m (λ i. after_item i (actions_within (length (drop at s)) f))) h

    pub from-bad : one (action_form f) (drop at s) at ≡ bad_at r → actions_from f (drop at s) at ≡ bad_at r
    unfolding actions_from actions_within onward
    from-bad h = ap (λ (m : Reading Item). onward m (λ i. after_item i (actions_within (length (drop at s)) f))) h

  -- ---- what the answer of the reader says
  is-item : (i : Item) {a : Action} → Some a ≡ action_held i → i ≡ item a
  is-item end {a} e = let z : ◌≡◌ {A = ℕ} 0 1 = cc in absurd (omega arith)
  is-item (item b) {a} e = let x : b ≡ a = cc in ap item x

  is-end : (i : Item) → None ≡ action_held i → i ≡ end
  is-end end e = refl
  is-end (item b) e = let z : ◌≡◌ {A = ℕ} 0 1 = cc in absurd (omega arith)

  module _ (s : List ℕ) (at : ℕ) where
    pub act-read : {a : Action} {r : ℕ} → Ok (Some a, r) ≡ action_read (one (action_form f) (drop at s) at)
        → one (action_form f) (drop at s) at ≡ read (item a) (drop r s) r
    act-read {a} {r} e =
        let w = found_is action_held (one (action_form f)) s at (kept-one (action_form f)) e in
        w.reads ∙ ap (λ (i : Item). read i (drop r s) r) (is-item w.value w.told)

    pub end_read : {r : ℕ} → Ok (None, r) ≡ action_read (one (action_form f) (drop at s) at) → one (action_form f) (drop at s) at ≡ read end (drop r s) r
    end_read {r} e =
        let w = found_is action_held (one (action_form f)) s at (kept-one (action_form f)) e in
        w.reads ∙ ap (λ (i : Item). read i (drop r s) r) (is-end w.value w.told)

    pub bad-read : {d : BadAt} → Err d ≡ action_read (one (action_form f) (drop at s) at) → one (action_form f) (drop at s) at ≡ bad_at d.0
    bad-read e = missed action_held (one (action_form f)) s at e

  -- ---- the layout goes by what is left
  layout-joining : (a : Action) (m : Reading (List Action)) → layout_of (onward m (joining a)) ≡ layout_of m
  unfolding onward joining
  layout-joining a (read l xs p) = refl
  layout-joining a (bad_at p) = refl

  closed_none : (xs : List ℕ) (p : ℕ) → length xs ≡ 0 → layout_of (closed xs p) ≡ Ok tt
  unfolding closed
  closed_none [] p h = refl
  closed_none (x ∷ xs) p h = absurd (omega arith)

  closed_some : (xs : List ℕ) (p : ℕ) → (length xs ≡ 0 → ⊥) → layout_of (closed xs p) ≡ Err (record { 0 = p })
  unfolding closed
  closed_some [] p h = absurd (h refl)
  closed_some (x ∷ xs) p h = refl

  module _ (s : List ℕ) (at : ℕ) where
    abbrev pub here : Result Unit BadAt
    here = layout_of (actions_from f (drop at s) at)

    pub layout-act : {a : Action} {r : ℕ} → Ok (Some a, r) ≡ action_read (one (action_form f) (drop at s) at)
        → (here ≡ layout_of (actions_from f (drop r s) r)) × (at < r) × (r ≤ length s) × (at < length s)
    layout-act {a} {r} e =
        let h = act-read s at e in
        let w = span s at r h in
        (ap layout_of (from-item s at r h) ∙ layout-joining a (actions_from f (drop r s) r), w.0, w.1, w.2)

    pub layout-end : {r : ℕ} → Ok (None, r) ≡ action_read (one (action_form f) (drop at s) at) → r ≡ length s → here ≡ Ok tt
    layout-end {r} e z = ap layout_of (from_end s at r (end_read s at e)) ∙ closed_none (drop r s) r (omega (arith, length-drop r s))

    pub layout-more : {r : ℕ} → Ok (None, r) ≡ action_read (one (action_form f) (drop at s) at) → (r ≡ length s → ⊥) → here ≡ Err (record { 0 = r })
    layout-more {r} e z =
        let h = end_read s at e in
        let w = span s at r h in
        ap layout_of (from_end s at r h) ∙ closed_some (drop r s) r (λ y. z (omega (arith, length-drop r s, w.1)))

    pub layout-bad : {d : BadAt} → Err d ≡ action_read (one (action_form f) (drop at s) at) → here ≡ Err d
    layout-bad {d} e = ap layout_of (from-bad s at d.0 (bad-read s at e))

-- ---- the actions that are read from a place on: end, or one and the others
pub data Coming (f : Format) (s : List ℕ) (at : ℕ) (ys : List ℕ) (q : ℕ) : List Action → Type 0 where
  last : (r : ℕ) → one (action_form f) (drop at s) at ≡ read end (drop r s) r → Coming f s at ys q []
  next
      : {a : Action} (r : ℕ) {l : List Action} → one (action_form f) (drop at s) at ≡ read (item a) (drop r s) r → actions_from f (drop r s) r
      ≡ read l ys q
      → Coming f s at ys q (a ∷ l)

closed_all : (zs : List ℕ) (r : ℕ) {l : List Action} {ys : List ℕ} {q : ℕ} → closed zs r ≡ read l ys q → [] ≡ l
unfolding closed
closed_all [] r {l} {ys} {q} e = cc
closed_all (z ∷ zs) r {l} {ys} {q} e =
    let n : ◌≡◌ {A = ℕ} 0 1 = cc in absurd (omega arith)

module _ (f : Format) (s : List ℕ) (at : ℕ) {ys : List ℕ} {q : ℕ} where
  joined_is
      : {a : Action} (r : ℕ) {l : List Action} → one (action_form f) (drop at s) at ≡ read (item a) (drop r s) r
      → onward (actions_from f (drop r s) r) (joining a) ≡ read l ys q → Coming f s at ys q l
  unfolding joining
  joined_is {a} r {l} h e =
      let t = both (actions_from f (drop r s) r) (joining a) e in
      let u : read (a ∷ t.value) t.left t.place ≡ read l ys q = t.second in
      let x : a ∷ t.value ≡ l = cc in
      let y : t.left ≡ ys = cc in
      let z : t.place ≡ q = cc in
      subst (λ (m : List Action). Coming f s at ys q m) x (next r h (t.first ∙ rw (y, z)))

  coming-by
      : (i : Item) (r : ℕ) {l : List Action} → one (action_form f) (drop at s) at ≡ read i (drop r s) r → actions_from f (drop at s) at ≡ read l ys q
      → Coming f s at ys q l
  coming-by end r h e = subst (λ (m : List Action). Coming f s at ys q m) (closed_all (drop r s) r (sym (from_end f s at r h) ∙ e)) (last r h)
  coming-by (item a) r h e = joined_is r h (sym (from-item f s at r h) ∙ e)

  pub coming : {l : List Action} → actions_from f (drop at s) at ≡ read l ys q → Coming f s at ys q l
  unfolding actions_from actions_within
  coming {l} e =
      let r = both (one (action_form f) (drop at s) at) (λ i. after_item i (actions_within (length (drop at s)) f)) e in
      let w : r.left ≡ drop r.place s = kept-one (action_form f) s at r.value r.left r.place r.first in
      coming-by r.value r.place (r.first ∙ ap (λ (xs : List ℕ). read r.value xs r.place) w) e
