-- What was read: an action with those that are left after it, or the end.
-- Assumes nothing.
use Prim.Native.Nat.{ℕ, ◌≤◌, ◌<◌}
use native.Mathlib.Omega.{arith}
use mathlib.Core.Path.{◌≡◌, refl, sym, ap, ◌∙◌, subst}
use mathlib.Core.List.{List, [], ◌∷◌}
use Rattle.std.specs.Prelude.{Option, Some, None, Result, Ok, Err}
use lib.ListN.{length, drop}
use Rattle.types.specs.declared.Action.{Action}
use Rattle.types.specs.declared.Format.{Format}
use Rattle.layout.specs.Read.{read, one}
use Rattle.rules.specs.Script.{action_form, actions_from}
use Rattle.script_places.specs.declared.BadAt.{BadAt}
use Rattle.script_records.specs.Views.{action_read}
use Rattle.script_check.proofs.Actions.{Coming, last, next, coming, span}

pub record Acts (f : Format) (s : List ℕ) (at : ℕ) (ys : List ℕ) (q : ℕ) (l : List Action) (a : Action) (r : ℕ) : Type 0 where
  pub more : List Action
  pub all : l ≡ a ∷ more
  pub reads : actions_from f (drop r s) r ≡ read more ys q
  pub on : at < r
  pub within : r ≤ length s
  pub here : at < length s

-- What was read, by the case that it is.
pub as_case : {a b : Option Action} (r : ℕ) {m : Result (Option Action × ℕ) BadAt} → a ≡ b → Ok (a, r) ≡ m → m ≡ Ok (b, r)
as_case r e h = sym h ∙ ap (λ (x : Option Action). Ok (x, r)) e

abbrev told_in : Result (Option Action × ℕ) BadAt → Option Action
told_in (Ok x) = x.0
told_in (Err d) = None

abbrev place_in : Result (Option Action × ℕ) BadAt → ℕ
place_in (Ok x) = x.1
place_in (Err d) = d.0

module _ (f : Format) (s : List ℕ) (at : ℕ) {ys : List ℕ} {q : ℕ} where
  acts-of : {l : List Action} (a : Action) (r : ℕ) → Coming f s at ys q l
      → action_read (one (action_form f) (drop at s) at) ≡ Ok (Some a, r) → Acts f s at ys q l a r
  acts-of a r (last p h) e =
      let o : ◌≡◌ {A = Option Action} None (Some a) = ap told_in (ap action_read (sym h) ∙ e) in
      let z : ◌≡◌ {A = ℕ} 0 1 = cc in
      absurd (omega arith)
  acts-of a r (next {a = b} p {l = more} h g) e =
      let o : ◌≡◌ {A = Option Action} (Some b) (Some a) = ap told_in (ap action_read (sym h) ∙ e) in
      let x : b ≡ a = cc in
      let y : p ≡ r = ap place_in (ap action_read (sym h) ∙ e) in
      let w = span f s at p h in
      subst (λ (k : ℕ). Acts f s at ys q (b ∷ more) a k) y
      (record { more = more; all = ap (λ (c : Action). c ∷ more) x; reads = g; on = w.0; within = w.1; here = w.2 })

  pub acts : {l : List Action} (a : Action) (r : ℕ) → actions_from f (drop at s) at ≡ read l ys q
      → action_read (one (action_form f) (drop at s) at) ≡ Ok (Some a, r) → Acts f s at ys q l a r
  acts a r g e = acts-of a r (coming f s at g) e

  ends_of : {l : List Action} (r : ℕ) → Coming f s at ys q l → action_read (one (action_form f) (drop at s) at) ≡ Ok (None, r) → (l ≡ []) × (at < length s)
  ends_of r (last p h) e = (refl, (span f s at p h).2)
  ends_of r (next {a = b} p h g) e =
      let o : ◌≡◌ {A = Option Action} (Some b) None = ap told_in (ap action_read (sym h) ∙ e) in
      let z : ◌≡◌ {A = ℕ} 0 1 = cc in
      absurd (omega arith)

  pub ends : {l : List Action} (r : ℕ) → actions_from f (drop at s) at ≡ read l ys q → action_read (one (action_form f) (drop at s) at) ≡ Ok (None, r)
      → (l ≡ []) × (at < length s)
  ends r g e = ends_of r (coming f s at g) e

  never-of : {l : List Action} (d : BadAt) → Coming f s at ys q l → action_read (one (action_form f) (drop at s) at) ≡ Err d → ⊥
  never-of d (last p h) e =
      let o : ◌≡◌ {A = Result (Option Action × ℕ) BadAt} (Ok (None, p)) (Err d) = ap action_read (sym h) ∙ e in
      let z : ◌≡◌ {A = ℕ} 0 1 = cc in
      absurd (omega arith)
  never-of d (next {a = b} p h g) e =
      let o : ◌≡◌ {A = Result (Option Action × ℕ) BadAt} (Ok (Some b, p)) (Err d) = ap action_read (sym h) ∙ e in
      let z : ◌≡◌ {A = ℕ} 0 1 = cc in
      absurd (omega arith)

  pub never : {l : List Action} (d : BadAt) → actions_from f (drop at s) at ≡ read l ys q → action_read (one (action_form f) (drop at s) at) ≡ Err d → ⊥
  never d g e = never-of d (coming f s at g) e
