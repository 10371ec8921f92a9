-- The rows of an actor before any start.
-- Assumes nothing.
use Prim.Native.Nat.{ℕ, zero, suc, ◌+◌}
use native.Mathlib.Omega.{arith}
use mathlib.Core.Path.{◌≡◌, refl, ap, ◌∙◌}
use mathlib.Core.Bool.{false}
use mathlib.Core.List.{List, []}
use lib.ListN.{length, get_or, replicate}
use lib.Seq.{get_or-set_other}
use Rattle.lists.specs.Lists.{choose}
use Rattle.types.specs.Capacities.{most_pending}
use Rattle.types.specs.declared.Rule.{Rule}
use Rattle.rules.specs.Link.{fresh}
use Rattle.rules.specs.System.{unstarted}
use Rattle.link_timers.specs.Views.{listed_from, listed}
use Rattle.link_rows.specs.Rows.{row_size, storage_in, durable_in}
use Rattle.sys_rows.specs.Rows.{stored_in, actor_of, fresh_row, RowsLaid}
use Rattle.sys_rows.proofs.Laws.{tail_at}

-- A row of which all but the next number is zero, and any pending records.
none-used : (w : List ℕ) (p : List (List ℕ)) → length w ≡ row_size → ((i : ℕ) → get_or w (1 + i) 0 ≡ 0) → length p ≡ most_pending
    → RowsLaid w p
none-used w p room z places =
    let e1 = z 0 in
    let e2 = z 1 in
    let e3 = z 2 in
    record {
      room = room;
      places = places;
      pending = omega arith;
      head = record {
        sendable = record { dst = λ i h. absurd (omega arith); payload = λ i h. absurd (omega arith) };
        saves = omega arith;
        value = omega arith;
      };
      tail = record {
        sources = let y = tail_at w 0 ∙ z 3 in omega arith;
        timers = let y = tail_at w 2 ∙ z 5 in omega arith;
        state = let y = tail_at w 3 ∙ z 6 in omega arith;
        rest = λ i a b. let e : 4 + (4 + i) ≡ 1 + (7 + i) = omega arith in tail_at w (4 + i) ∙ ap (λ (n : ℕ). get_or w n 0) e ∙ z (7 + i);
      };
    }

zeros : (n i : ℕ) → ◌≡◌ {A = ℕ} (get_or (replicate n 0) i 0) 0
zeros zero i = refl
zeros (suc n) zero = refl
zeros (suc n) (suc i) = zeros n i

module _ (p : List (List ℕ)) where
  pub fresh-durable : durable_in fresh_row p ≡ fresh
  unfolding durable_in storage_in fresh
  fresh-durable = refl

  pub fresh-laid : length p ≡ most_pending → RowsLaid fresh_row p
  fresh-laid h = none-used fresh_row p refl (λ i. get_or-set_other (replicate row_size 0) 0 (1 + i) 1 0 (λ z. omega arith) ∙ zeros row_size (1 + i)) h

  -- Nothing is stored in a row of zeros.
  pub zero-laid : length p ≡ most_pending → RowsLaid (replicate row_size 0) p
  zero-laid h = none-used (replicate row_size 0) p refl (λ i. zeros row_size (1 + i)) h

-- An actor before any start.
pub fresh-actor : (rs : List Rule) (p : List (List ℕ)) (k : List ℕ) (q : List (List ℕ)) → get_or k 5 0 ≡ 0 → actor_of rs fresh_row p k q
    ≡ unstarted rs
unfolding actor_of unstarted stored_in listed listed_from choose
fresh-actor rs p k q e =
    let d = fresh-durable p in
    let s = ap (λ (n : ℕ). stored_in n (durable_in k q)) e in
    λ j. record { rules = rs; crashed = false; timers = []; link = record { durable = d j; state = 0 }; storage = s j }
