-- No second answer fits what a whole action or a start promises: any one system that holds the rows, of so many actors, shows it.
-- Assumes nothing.
use Prim.Native.Nat.{ℕ}
use mathlib.Core.Path.{◌≡◌, refl, sym, ap, ◌∙◌}
use mathlib.Core.Bool.{Bool, true, false}
use mathlib.Core.List.{List}
use lib.ListN.{length}
use borrow.Author.Tests.{eqb-true}
use Rattle.types.specs.declared.Id.{Id}
use Rattle.types.specs.declared.Kind.{Kind}
use Rattle.types.specs.declared.Rule.{Rule}
use Rattle.std.specs.Prelude.{Option}
use Rattle.answers.specs.Answers.{Answer}
use Rattle.answers.specs.Answers.{Done}
use Rattle.answers.specs.Answers.{answer_number, is_done}
use Rattle.answers.proofs.Numbers.{number-inj}
use Rattle.rules.specs.Outcome.{Outcome, done, refused}
use Rattle.rules.specs.Network.{Net, len}
use Rattle.rules.specs.System.{Sys, actor}
use Rattle.net_rows.specs.declared.Sent.{Sent}
use Rattle.net_rows.specs.Views.{net_of, NetReady}
use Rattle.net_rows.proofs.Laws.{used-is}
use Rattle.sys_seat.specs.Seat.{Around}
use Rattle.sys_seat.proofs.Seats.{held}
use Rattle.sys_reacts.proofs.Deliver.{never}
use Rattle.sys_moves.specs.Views.{Rows, actor_at, sys_at, Ended}
use Rattle.types.specs.declared.Envelope.{Envelope}

-- ---- two outcomes
pub same-done : (o : Outcome Sys) (p q : Sys) → o ≡ done p → o ≡ done q → p ≡ q
same-done o p q a b = cc

same-refused : (o : Outcome Sys) (j k : ℕ) → o ≡ refused j → o ≡ refused k → j ≡ k
same-refused o j k a b = cc

done-answer : (a : Answer) → is_done a ≡ true → a ≡ Done
done-answer a h = number-inj a Done (eqb-true (answer_number a) 0 h)

-- Answers that tell one outcome are one.
module _ (o : Outcome Sys) (a b : Answer) (p q : Sys) (pa : is_done a ≡ true → o ≡ done p) (ra : is_done a ≡ false → o ≡ refused (answer_number a))
    (pb : is_done b ≡ true → o ≡ done q) (rb : is_done b ≡ false → o ≡ refused (answer_number b)) where
  pub same_answer : a ≡ b
  same_answer = go (is_done a) (is_done b) refl refl
    where
      go : (x y : Bool) → is_done a ≡ x → is_done b ≡ y → a ≡ b
      go true true h k = done-answer a h ∙ sym (done-answer b k)
      go true false h k = absurd (never o p (answer_number b) (pa h) (rb k))
      go false true h k = absurd (never o q (answer_number a) (pb k) (ra h))
      go false false h k = number-inj a b (same-refused o _ _ (ra h) (rb k))

-- Cells that are one network are counted alike.
pub same-counts : (kind : Kind) (last : Option Envelope) (cs ds : List (List ℕ)) (used n full m : ℕ) → NetReady kind cs used n → NetReady kind ds full m
    → net_of kind last cs used ≡ net_of kind last ds full → (used ≡ full) × (n ≡ m)
same-counts kind last cs ds used n full m h k e =
    let q = ap (λ (w : Net). w.entries) e in (
      sym (used-is cs used n h.laid) ∙ ap length q ∙ used-is ds full m k.laid,
      h.laid.sum ∙ ap len q ∙ sym k.laid.sum,
    )

-- ---- what a step ends with
module _ (me : Id) (count : ℕ) (rs : List Rule) (o : Around me → Option Envelope → Outcome Sys) (after : Option Envelope → Option Envelope) (kind : Kind)
    (used n : ℕ) (x : Rows) (r s : Sent) (y z : Rows) (h : Ended me count rs o after kind used n x r y) (k : Ended me count rs o after kind used n x s z)
    (hall : Around me) (size : length hall.sys.actors ≡ count) where
  pub one_answer : r.answer ≡ s.answer
  one_answer =
      let last = hall.sys.net.last in
      same_answer (o hall last) r.answer s.answer _ _ (λ t. h.runs t hall size last) (λ f. h.stops f hall size last)
      (λ t. k.runs t hall size last) (λ f. k.stops f hall size last)

  -- Done: the rows are one network and one actor.
  module _ (t : is_done r.answer ≡ true) (last : Option Envelope) where
    one-system : sys_at me hall kind (after last) r.used rs y ≡ sys_at me hall kind (after last) s.used rs z
    one-system = same-done (o hall last) _ _ (h.runs t hall size last) (k.runs (ap is_done (sym one_answer) ∙ t) hall size last)

    pub one-network : net_of kind (after last) y.cells r.used ≡ net_of kind (after last) z.cells s.used
    one-network = ap (λ (p : Sys). p.net) one-system

    pub one-count : (r.used ≡ s.used) × (r.len ≡ s.len)
    one-count = same-counts kind (after last) y.cells z.cells _ _ _ _ h.fine.net k.fine.net one-network

    pub one-actor : actor_at rs y ≡ actor_at rs z
    one-actor = sym (held me hall (net_of kind (after last) y.cells r.used) (actor_at rs y)) ∙ ap (λ (p : Sys). actor p me) one-system
        ∙ held me hall (net_of kind (after last) z.cells s.used) (actor_at rs z)

  -- Else they are the rows that came.
  pub one-refusal : is_done r.answer ≡ false → (y ≡ z) × (r.used ≡ s.used) × (r.len ≡ s.len)
  one-refusal f =
      let a = h.same f in
      let b = k.same (ap is_done (sym one_answer) ∙ f) in
      (a.0 ∙ sym b.0, a.1 ∙ sym b.1, a.2 ∙ sym b.2)
