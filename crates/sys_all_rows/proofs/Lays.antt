-- Actors and tables laid out one after the other: those before a place are, and then the one at that place.
-- Assumes nothing.
use Prim.Native.Nat.{ℕ, ◌+◌, ◌<◌}
use native.Mathlib.Omega.{arith}
use native.Mathlib.Decide.{ℕ_discrete}
use mathlib.Core.Path.{◌≡◌, sym, ap, ◌∙◌, subst}
use mathlib.Core.List.{List}
use lib.ListN.{length, get_or, set, length-set}
use lib.Seq.{get_or-set_same, get_or-set_other}
use Rattle.lists.proofs.Places.{get-any}
use Rattle.types.specs.Capacities.{most_actors}
use Rattle.link_inner.specs.declared.Table.{Table}
use Rattle.link_inner.specs.Views.{rules_of}
use Rattle.sys_rows.specs.declared.ActorRows.{ActorRows}
use Rattle.sys_rows.specs.declared.TableRows.{TableRows}
use Rattle.sys_rows.specs.Rows.{listed_rules, RulesLaid}
use Rattle.sys_actor.specs.declared.Actor.{Actor}
use Rattle.sys_layout.specs.Views.{LaidOut}
use Rattle.sys_all_rows.specs.Views.{Hall, Books, no_actor, no_table, rules_at, ActorsLaid, TablesLaid}

beyond : (j i : ℕ) → j < i + 1 → (j ≡ i → ⊥) → j < i
beyond j i w p = omega arith

-- ---- actors
pub actors-none : (actors : List Actor) (h : Hall) → length h ≡ most_actors → ActorsLaid actors 0 h
actors-none actors h z = record { sized = z; rows = λ i w. absurd (omega arith) }

module _ (actors : List Actor) (room : length actors ≡ most_actors) (i : ℕ) (h : Hall) (before : ActorsLaid actors i h) (inside : i < most_actors)
    (d : Actor) (x : ActorRows) (laid : LaidOut (get_or actors i d) x) where
  actor-at : (j : ℕ) → j < i + 1 → (e : Actor) → Dec (j ≡ i) → LaidOut (get_or actors j e) (get_or (set h i x) j no_actor)
  actor-at j w e (yes p) =
      let n = before.sized in
      subst (λ (k : ℕ). LaidOut (get_or actors k e) (get_or (set h i x) k no_actor)) (sym p)
      (subst (LaidOut (get_or actors i e)) (sym (get_or-set_same h i x no_actor (omega arith)))
      (subst (λ (a : Actor). LaidOut a x) (get-any actors i d e (omega arith)) laid))
  actor-at j w e (no p) = subst (LaidOut (get_or actors j e)) (sym (get_or-set_other h i j x no_actor p)) (before.rows j (beyond j i w p) e)

  pub actors-next : ActorsLaid actors (i + 1) (set h i x)
  actors-next = record { sized = length-set h i x ∙ before.sized; rows = λ j w e. actor-at j w e (ℕ_discrete j i) }

-- ---- tables
pub tables-none : (ts : List Table) (b : Books) → length b ≡ most_actors → TablesLaid ts 0 b
tables-none ts b m = record { room = m; rules = λ i w. absurd (omega arith); rows = λ i w. absurd (omega arith) }

module _ (ts : List Table) (room : length ts ≡ most_actors) (i : ℕ) (b : Books) (before : TablesLaid ts i b) (inside : i < most_actors)
    (d : Table) (t : TableRows) (rules : listed_rules t ≡ rules_of (get_or ts i d)) (laid : RulesLaid t) where
  abbrev next : Books
  next = set b i t

  table_here : get_or next i no_table ≡ t
  table_here = let n = before.room in get_or-set_same b i t no_table (omega arith)

  rules-at : (j : ℕ) → j < i + 1 → (e : Table) → Dec (j ≡ i) → rules_at next j ≡ rules_of (get_or ts j e)
  rules-at j w e (yes p) = subst (λ (k : ℕ). rules_at next k ≡ rules_of (get_or ts k e)) (sym p)
      (ap listed_rules table_here ∙ rules ∙ ap rules_of (get-any ts i d e (omega arith)))
  rules-at j w e (no p) = ap listed_rules (get_or-set_other b i j t no_table p) ∙ before.rules j (beyond j i w p) e

  rows-at : (j : ℕ) → j < i + 1 → Dec (j ≡ i) → RulesLaid (get_or next j no_table)
  rows-at j w (yes p) = subst (λ (k : ℕ). RulesLaid (get_or next k no_table)) (sym p) (subst RulesLaid (sym table_here) laid)
  rows-at j w (no p) = subst RulesLaid (sym (get_or-set_other b i j t no_table p)) (before.rows j (beyond j i w p))

  pub tables-next : TablesLaid ts (i + 1) next
  tables-next = record {
    room = length-set b i t ∙ before.room;
    rules = λ j w e. rules-at j w e (ℕ_discrete j i);
    rows = λ j w. rows-at j w (ℕ_discrete j i);
  }
