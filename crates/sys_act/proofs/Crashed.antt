-- A crash in the rows: the mark is set and the timers are gone, all else is as it was.
-- Assumes nothing.
use Prim.Native.Nat.{ℕ, ◌+◌}
use native.Mathlib.Omega.{arith}
use mathlib.Core.Path.{◌≡◌, ap, ◌∙◌}
use mathlib.Core.Bool.{true}
use mathlib.Core.List.{List}
use lib.ListN.{length, get_or, set, length-set}
use lib.Seq.{get_or-set_same, get_or-set_other}
use Rattle.types.specs.declared.Rule.{Rule}
use Rattle.rules.specs.Timers.{no_timers}
use Rattle.rules.specs.System.{with_mark}
use Rattle.link_timers.specs.Views.{listed}
use Rattle.link_timers.proofs.Listed.{listed-new}
use Rattle.link_tables.specs.Rows.{mark}
use Rattle.link_rows.specs.Rows.{durable_in}
use Rattle.sys_rows.specs.Rows.{stored_in, actor_of, RowsLaid}
use Rattle.sys_rows.proofs.Laws.{aside, aside-head, tail_at, tail-marks}

module _ (w : List ℕ) (p : List (List ℕ)) (laid : RowsLaid w p) where
  abbrev u : List ℕ
  u = set w 5 1

  abbrev v : List ℕ
  v = set u 6 0

  long : length u ≡ length w
  long = length-set w 5 1

  other : (i : ℕ) → (i ≡ 5 → ⊥) → (i ≡ 6 → ⊥) → get_or v i 0 ≡ get_or w i 0
  other i a b = get_or-set_other u 6 i 0 0 b ∙ get_or-set_other w 5 i 1 0 a

  marked : get_or v 5 0 ≡ 1
  marked = let r = laid.room in get_or-set_other u 6 5 0 0 (λ z. omega arith) ∙ get_or-set_same w 5 1 0 (omega arith)

  cleared : get_or v 6 0 ≡ 0
  cleared = let r = laid.room in let l = long in get_or-set_same u 6 0 0 (omega arith)

  pub crashed-durable : durable_in v p ≡ durable_in w p
  crashed-durable = aside u 6 0 (omega arith) (omega arith) p ∙ aside w 5 1 (omega arith) (omega arith) p

  pub crashed-laid : RowsLaid v p
  crashed-laid = record {
    room = length-set u 6 0 ∙ long ∙ laid.room;
    places = laid.places;
    pending = let z = other 1 (λ z. omega arith) (λ z. omega arith) in let y = laid.pending in omega arith;
    head = aside-head u 6 0 (omega arith) (omega arith) p (aside-head w 5 1 (omega arith) (omega arith) p laid.head);
    tail = tail-marks w v laid.tail (other 4 (λ z. omega arith) (λ z. omega arith)) (let z = cleared in omega arith)
        (let z = other 7 (λ z. omega arith) (λ z. omega arith) in let y = laid.tail.state in let x = tail_at w 3 in omega arith)
        (λ i. other (8 + i) (λ z. omega arith) (λ z. omega arith));
  }

  pub crashed-actor : (rs : List Rule) (k : List ℕ) (q : List (List ℕ)) → actor_of rs v p k q ≡ with_mark true no_timers (actor_of rs w p k q)
  unfolding actor_of with_mark
  crashed-actor rs k q = λ j. record {
    rules = rs;
    crashed = mark (marked j);
    timers = (ap listed cleared ∙ listed-new) j;
    link = record { durable = crashed-durable j; state = other 7 (λ z. omega arith) (λ z. omega arith) j };
    storage = stored_in (get_or k 5 0) (durable_in k q);
  }
