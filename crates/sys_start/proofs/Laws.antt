-- The start as a whole: its stages one after another, and that a start that is done gives a system that is ready.
-- Assumes nothing.
use Prim.Native.Nat.{ℕ}
use native.Mathlib.Omega.{arith}
use mathlib.Core.Path.{◌≡◌, refl, sym, ap, subst, ◌∙◌}
use mathlib.Core.Bool.{Bool, true, false, ◌&&◌}
use mathlib.Core.List.{List}
use borrow.Author.Tests.{eqb-true}
use Rattle.types.specs.declared.Kind.{Kind}
use Rattle.types.specs.declared.Rule.{Rule}
use Rattle.answers.specs.Answers.{answer_number, answer_of, is_done}
use Rattle.answers.specs.Answers.{Done}
use Rattle.answers.proofs.Numbers.{number-answer, number-inj, done-is-0}
use Rattle.rules.specs.Outcome.{Outcome, done, refused, bind, guard, base}
use Rattle.rules.specs.Network.{kind_of}
use Rattle.rules.specs.System.{Sys, Next, systems}
use Rattle.rules.specs.WellFormed.{well_formed}
use Rattle.rules.specs.Start.{fill, wake_all, Setup, boot, blank, startable, start}
use Rattle.rules.specs.Run.{answer}
use Rattle.rules.proofs.Laws.{holds-guard}
use Rattle.rules.proofs.Formed.{start-well}
use Rattle.rules.proofs.Answers.{start-done}
use Rattle.net_rows.specs.declared.Sent.{Sent}
use Rattle.link_inner.specs.declared.Table.{Table}
use Rattle.sys_seat.proofs.Actions.{systems-guard, systems-bind}
use Rattle.sys_system.specs.Views.{system_of}
use Rattle.sys_system.proofs.Laws.{image-laid, system-back}
use Rattle.sys_answered.specs.declared.Answered.{Answered}
use Rattle.sys_answered.specs.Views.{Ready, answered_of}
use Rattle.sys_start.specs.declared.Given.{Given}
use Rattle.sys_start.specs.Views.{given_view, tables_view, start_laid, started, start_fine, empty_net, Filled, asleep, waking_all}

guard-both : {A : Type 0} (a b : Bool) (n : ℕ) (m : Outcome A) → guard a n (guard b n m) ≡ guard (a && b) n m
unfolding guard
guard-both true b n m = refl
guard-both false b n m = refl

guarded : {A : Type 0} (b : Bool) (n : ℕ) (m : Outcome A) → b ≡ true → guard b n m ≡ m
unfolding guard
guarded b n m e = rw e

unguarded : {A : Type 0} (b : Bool) (n : ℕ) (m : Outcome A) → b ≡ false → guard b n m ≡ refused n
unfolding guard
unguarded b n m e = rw e

systems-done : (o : Outcome Next) (m : Sys) → systems o ≡ done m → (x : Next) × (o ≡ done x) × (x.sys ≡ m)
unfolding systems
systems-done (done x) m e = (x, refl, cc)
systems-done (refused k) m e = absurd (let z : ◌≡◌ {A = ℕ} 0 1 = cc in omega arith)

-- No refusal has the number 0.
systems-0 : (o : Outcome Next) → (answer o ≡ 0 → (x : Next) × (o ≡ done x)) → systems o ≡ refused 0 → ⊥
unfolding systems answer
systems-0 (done x) f e = let z : ◌≡◌ {A = ℕ} 0 1 = cc in omega arith
systems-0 (refused n) f e = let h : n ≡ 0 = cc in let q = (f h).1 in let z : ◌≡◌ {A = ℕ} 0 1 = cc in omega arith

guard-0 : (b : Bool) (o : Outcome Next) → (answer o ≡ 0 → (x : Next) × (o ≡ done x)) → systems (guard b 10 o) ≡ refused 0 → ⊥
unfolding guard systems
guard-0 true o f e = systems-0 o f e
guard-0 false o f e = let z : ◌≡◌ {A = ℕ} 10 0 = cc in omega arith

module _ (kind count : ℕ) (tables : List Table) (g : Given) where
  abbrev ts : List (List Rule)
  ts = tables_view count tables

  abbrev u : Setup
  u = record { kind = kind }

  abbrev first : Sys
  first = boot u ts

  stages : started kind count tables g ≡ guard (start_fine kind count tables g) 10
      (systems (bind (fill base.room (given_view g) first) (wake_all base 0 first.actors)))
  unfolding started start_fine start
  stages = ap systems (guard-both (start_laid count tables g) (startable u ts (given_view g)) 10 _) ∙ systems-guard _ _ _

  pub start-refused : start_fine kind count tables g ≡ false → started kind count tables g ≡ refused 10
  start-refused e = stages ∙ unguarded _ _ _ e

  -- The given envelopes, then the actors.
  abbrev onward : Sys → Outcome Sys
  onward s = systems (wake_all base 0 (asleep count tables) s)

  module _ (k : Kind) (is : k ≡ kind_of kind) (fine : start_fine kind count tables g ≡ true) (s : Sent) (cs : List (List ℕ))
      (f : Filled k (given_view g) s cs) where
    goes : started kind count tables g ≡ bind (fill base.room (given_view g) (record { net = empty_net k; actors = asleep count tables })) onward
    unfolding boot
    goes =
        stages ∙ guarded _ _ _ fine ∙ systems-bind _ _
        ∙ ap (λ (q : Kind). bind (fill base.room (given_view g) (record { net = empty_net q; actors = asleep count tables })) onward) (sym is)

    pub start-full : is_done s.answer ≡ false
        → ◌≡◌ {A = Answered} (record { answer = s.answer; system = system_of blank }) (answered_of (system_of blank) (started kind count tables g))
    unfolding bind
    start-full h =
        let v = number-answer s.answer in
        (λ j. record { answer = sym v j; system = system_of blank })
        ∙ sym (ap (answered_of (system_of blank)) (goes ∙ ap (λ (o : Outcome Sys). bind o onward) (f.stops h (asleep count tables))))

    pub start-wakes : is_done s.answer ≡ true → waking_all k cs s.used count tables ≡ started kind count tables g
    unfolding bind
    start-wakes h = sym (goes ∙ ap (λ (o : Outcome Sys). bind o onward) (f.runs h (asleep count tables)))

  -- ---- what a start gives
  -- The rules' system is well formed.
  started-formed : (m : Sys) → started kind count tables g ≡ done m → well_formed base m ≡ true
  unfolding started
  started-formed m e =
      let x = systems-done _ m e in
      ap (well_formed base) (sym x.2) ∙ (holds-guard (start_laid count tables g) 10 _ (λ _. start-well base u ts (given_view g))).value x.0 x.1

  -- The struct that is handed back then holds it, and is ready.
  started-ready : (m : Sys) → started kind count tables g ≡ done m → Ready (system_of m)
  started-ready m e = let f = started-formed m e in record { laid = image-laid m f; formed = ap (well_formed base) (system-back m f) ∙ f }

  never-0 : started kind count tables g ≡ refused 0 → ⊥
  unfolding started
  never-0 e = guard-0 (start_laid count tables g) (start base u ts (given_view g)) (start-done base u ts (given_view g)) e

  gives : (o : Outcome Sys) → started kind count tables g ≡ o → is_done (answered_of (system_of blank) o).answer ≡ true
      → Ready (answered_of (system_of blank) o).system
  gives (done m) e h = started-ready m e
  gives (refused n) e h =
      let a : answer_of n ≡ Done = number-inj (answer_of n) Done (eqb-true (answer_number (answer_of n)) 0 h) in
      absurd (never-0 (e ∙ ap refused (done-is-0 n a)))

  -- What the code's answer says of it.
  pub start-ready : (r : Answered) → r ≡ answered_of (system_of blank) (started kind count tables g) → is_done r.answer ≡ true → Ready r.system
  start-ready r e h = subst (λ (x : Answered). Ready x.system) (sym e)
      (gives (started kind count tables g) refl (sym (ap (λ (x : Answered). is_done x.answer) e) ∙ h))
