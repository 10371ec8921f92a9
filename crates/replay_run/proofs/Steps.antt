-- The step that was taken, by what an action left of the rows: its answer is the rules', and so is the system that the rows are then.
-- Assumes nothing.
use Prim.Native.Nat.{ℕ}
use native.Mathlib.Omega.{arith}
use mathlib.Core.Path.{◌≡◌, refl, sym, ap, ◌∙◌}
use mathlib.Core.Bool.{Bool, true, false}
use mathlib.Core.List.{List}
use borrow.Author.Tests.{eqb-true}
use Rattle.lists.specs.Lists.{choose}
use Rattle.types.specs.declared.Action.{Action}
use Rattle.types.specs.declared.Kind.{Kind}
use Rattle.std.specs.Prelude.{Option}
use Rattle.answers.specs.Answers.{Answer}
use Rattle.answers.specs.Answers.{answer_number, is_done}
use Rattle.rules.specs.Outcome.{Outcome, done, refused, base}
use Rattle.rules.specs.System.{Sys, Next, systems, act}
use Rattle.rules.specs.Run.{step, answer, after}
use Rattle.rules.specs.WellFormed.{well_formed}
use Rattle.rules.proofs.Laws.{Holds}
use Rattle.rules.proofs.Answers.{formed-step}
use Rattle.rules.proofs.Formed.{step-formed}
use Rattle.net_rows.specs.declared.Sent.{Sent}
use Rattle.sys_moves.specs.Views.{last_then}
use Rattle.sys_all_rows.specs.Views.{Hall, Books, sys_of, Moved}
use Rattle.types.specs.declared.Envelope.{Envelope}

-- From m an action gave this answer, and leaves m'.
pub record Took (m : Sys) (a : Action) (k : Answer) (m' : Sys) : Type 0 where
  pub number : answer_number k ≡ answer (step base m a)
  pub view : m' ≡ after m (step base m a)

module _ (m : Sys) where
  by-done : (o : Outcome Next) (m' : Sys) → systems o ≡ done m' → (answer o ≡ 0) × (after m o ≡ m')
  unfolding systems answer after
  by-done (done y) m' e = (refl, cc)
  by-done (refused n) m' e = let z : ◌≡◌ {A = ℕ} 0 1 = cc in absurd (omega arith)

  by-refused : (o : Outcome Next) (n : ℕ) → systems o ≡ refused n → (answer o ≡ n) × (after m o ≡ m)
  unfolding systems answer after
  by-refused (done y) n e = let z : ◌≡◌ {A = ℕ} 0 1 = cc in absurd (omega arith)
  by-refused (refused k) n e = (cc, refl)

  after-formed : (o : Outcome Next) → Holds (λ (y : Next). well_formed base y.sys ≡ true) o → well_formed base m ≡ true
      → well_formed base (after m o) ≡ true
  unfolding after
  after-formed (done y) h w = h.value y refl
  after-formed (refused n) h w = w

-- A step keeps the system well formed.
pub took-formed : {m m' : Sys} {a : Action} {k : Answer} → Took m a k m' → well_formed base m ≡ true → well_formed base m' ≡ true
took-formed {m} {m'} {a} t w = ap (well_formed base) t.view ∙ after-formed m (step base m a) (step-formed base m a) w

-- ---- by the rows
module _ {count : ℕ} {a : Action} {kind : Kind} {used n : ℕ} {b : Books} {cs : List (List ℕ)} {h : Hall} {r : Sent} {cs' : List (List ℕ)} {h' : Hall}
    (mv : Moved count a kind used n b cs h r cs' h') (last : Option Envelope) (formed : well_formed base (sys_of count kind last cs used b h) ≡ true) where
  abbrev m : Sys
  m = sys_of count kind last cs used b h

  same_step : act base m a ≡ step base m a
  same_step = sym (formed-step base m a formed)

  -- The last message is another where the action is done.
  abbrev pub last_now : Option Envelope
  last_now = choose (is_done r.answer) (last_then kind a last) last

  pub took : Took m a r.answer (sys_of count kind last_now cs' r.used b h')
  unfolding choose
  took = go (is_done r.answer) refl
    where
      go : (d : Bool) → is_done r.answer ≡ d → Took m a r.answer (sys_of count kind (choose d (last_then kind a last) last) cs' r.used b h')
      go true e =
          let w = by-done m (step base m a) _ (ap systems (sym same_step) ∙ mv.runs e last) in
          record { number = eqb-true (answer_number r.answer) 0 e ∙ sym w.0; view = sym w.1 }
      go false e =
          let w = by-refused m (step base m a) _ (ap systems (sym same_step) ∙ mv.stops e last) in
          let z = mv.same e in
          record { number = sym w.0; view = (λ j. sys_of count kind last (z.0 j) (z.2 j) b (z.1 j)) ∙ sym w.1 }
