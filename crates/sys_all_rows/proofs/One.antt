-- No second answer fits what an action on the rows of a whole system promises.
-- Assumes nothing.
use Prim.Native.Nat.{ℕ}
use mathlib.Core.Path.{◌≡◌, sym, ap, ◌∙◌}
use mathlib.Core.Bool.{true, false}
use mathlib.Core.List.{List}
use Rattle.types.specs.declared.Kind.{Kind}
use Rattle.types.specs.declared.Action.{Action}
use Rattle.std.specs.Prelude.{Option, None}
use Rattle.types.specs.declared.Envelope.{Envelope}
use Rattle.answers.specs.Answers.{is_done}
use Rattle.rules.specs.Outcome.{base}
use Rattle.rules.specs.System.{Sys, systems, act}
use Rattle.net_rows.specs.declared.Sent.{Sent}
use Rattle.sys_moves.specs.Views.{last_then}
use Rattle.sys_moves.proofs.One.{same-done, same_answer, same-counts}
use Rattle.sys_all_rows.specs.Views.{Hall, Books, sys_of, Moved}

module _ (count : ℕ) (a : Action) (kind : Kind) (used n : ℕ) (b : Books) (cs : List (List ℕ)) (h : Hall) (r s : Sent)
    (ys zs : List (List ℕ)) (y z : Hall) (p : Moved count a kind used n b cs h r ys y) (q : Moved count a kind used n b cs h s zs z) where
  pub one_answer : r.answer ≡ s.answer
  one_answer = same_answer (systems (act base (sys_of count kind None cs used b h) a)) r.answer s.answer _ _
      (λ t. p.runs t None) (λ f. p.stops f None) (λ t. q.runs t None) (λ f. q.stops f None)

  -- Done: the rows are one system, counted alike.
  module _ (t : is_done r.answer ≡ true) where
    pub one-system : (last : Option Envelope) → sys_of count kind (last_then kind a last) ys r.used b y
        ≡ sys_of count kind (last_then kind a last) zs s.used b z
    one-system last =
        same-done (systems (act base (sys_of count kind last cs used b h) a)) _ _ (p.runs t last) (q.runs (ap is_done (sym one_answer) ∙ t) last)

    pub one-count : (r.used ≡ s.used) × (r.len ≡ s.len)
    one-count = same-counts kind _ ys zs _ _ _ _ (p.stands.fine 0 p.stands.one).net (q.stands.fine 0 q.stands.one).net
        (ap (λ (w : Sys). w.net) (one-system None))

  -- Else they are the rows that came.
  pub one-refusal : is_done r.answer ≡ false → (ys ≡ zs) × (y ≡ z) × (r.used ≡ s.used) × (r.len ≡ s.len)
  one-refusal f =
      let c = p.same f in
      let d = q.same (ap is_done (sym one_answer) ∙ f) in
      (c.0 ∙ sym d.0, c.1 ∙ sym d.1, c.2 ∙ sym d.2, c.3 ∙ sym d.3)
