-- The rule at the place that is found decides: the rules' reply looks at the head of the list, and how many rows lead without a match
-- counts the same.
-- Assumes nothing.
use Prim.Native.Nat.{ℕ, suc, ◌≤◌, ◌<◌}
use native.Mathlib.Nat.{le_of_suc-le-suc}
use native.Mathlib.Omega.{arith}
use mathlib.Core.Path.{◌≡◌, refl, sym, ap, ◌∙◌}
use mathlib.Core.Bool.{Bool, true, false, not, ◌&&◌}
use mathlib.Core.List.{List, [], ◌∷◌, map}
use lib.ListN.{length, take, get_or}
use lib.Seq.{get_or-take, length-take-le}
use lib.Dec.{eqb}
use borrow.Author.Tests.{ne_eqb}
use Rattle.lists.specs.Lists.{choose, any}
use Rattle.types.specs.declared.Id.{Id}
use Rattle.std.specs.Prelude.{Option, Some, None}
use Rattle.types.specs.declared.InnerCommand.{InnerCommand}
use Rattle.rules.specs.Inner.{Reply, matches, decided, reply, at_start, ignored, nobody}
use Rattle.link_tables.specs.Rows.{mark, rule_in, orders, replied, RowLaid, TableLaid, rules_in, first_of, deciding_of, start_event, start_value}
use Rattle.link_tables.proofs.Told.{row-decides, orders-count}

-- ---- a row that neither touches nor commands ignores the event
not-any : (l : List InnerCommand) → not (any (λ _. true) l) ≡ eqb (length l) 0
unfolding any
not-any [] = refl
not-any (x ∷ l) = sym (ne_eqb (suc (length l)) 0 (λ e. omega arith))

pub row_ignored : (r : List ℕ) (source : Id) (value : ℕ) → RowLaid r
    → ignored (replied r source value) ≡ (not (mark (get_or r 3 0)) && eqb (get_or r 5 0) 0)
unfolding ignored
row_ignored r source value laid = rw (not-any (orders r source value), orders-count r source value laid)

-- ---- what decides
module _ (event state : ℕ) (source : Id) (value : ℕ) where
  abbrev first : List (List ℕ) → ℕ
  first l = first_of event state value (map rule_in l)

  abbrev answer : List (List ℕ) → Reply
  answer l = reply (map rule_in l) event state source value

  abbrev none : Reply
  none = record { touched = false; state = state; out = [] }

  abbrev Found : List (List ℕ) → Type 0
  Found l = first l < length l → answer l ≡ decided source value (rule_in (get_or l (first l) []))

  abbrev Missed : List (List ℕ) → Type 0
  Missed l = length l ≤ first l → answer l ≡ none

  decide : (l : List (List ℕ)) → Found l × Missed l
  unfolding reply choose
  decide [] = (λ h. absurd (omega arith), λ h. refl)
  decide (x ∷ l) = go (matches event state value (rule_in x)) (decide l)
    where
      at : Bool → ℕ
      at b = elim (not b) [ true ↦ suc (first l) | false ↦ 0 ]

      here : Bool → Reply
      here b = choose b (decided source value (rule_in x)) (answer l)

      go : (b : Bool) → Found l × Missed l
          → (at b < suc (length l) → here b ≡ decided source value (rule_in (get_or (x ∷ l) (at b) []))) × (suc (length l) ≤ at b → here b ≡ none)
      go true f = (λ h. refl, λ h. absurd (omega arith))
      go false f = (λ h. f.0 (le_of_suc-le-suc h), λ h. f.1 (le_of_suc-le-suc h))

  -- In a table that is laid out, at the place that `first_match` gives.
  module _ (t : List (List ℕ)) (used at : ℕ) (laid : TableLaid t used) (e : at ≡ first_of event state value (rules_in t used)) where
    -- A rule decides: what its row says.
    pub row-replies : at < used → reply (rules_in t used) event state source value ≡ replied (get_or t at []) source value
    row-replies h =
        let z = length-take-le used t laid.fit in
        (decide (take used t)).0 (omega arith) ∙ ap (λ (i : ℕ). decided source value (rule_in (get_or (take used t) i []))) (sym e)
        ∙ ap (λ (r : List ℕ). decided source value (rule_in r)) (get_or-take used t at [] h) ∙ row-decides (get_or t at []) source value (laid.rows at h)

    -- None does: ignored.
    pub none-replies : used ≤ at → reply (rules_in t used) event state source value ≡ record { touched = false; state = state; out = [] }
    none-replies h = let z = length-take-le used t laid.fit in (decide (take used t)).1 (omega arith)

    none-ignored : used ≤ at → ignored (reply (rules_in t used) event state source value) ≡ true
    unfolding ignored any
    none-ignored h = ap ignored (none-replies h)

    -- So the place that `deciding` gives is that of a rule that does not ignore the event, or the count.
    pub none_decides : used ≤ at → used ≡ deciding_of event state source value t used
    unfolding choose
    none_decides h = rw (none-ignored h)

    pub one_ignores : at < used → ignored (replied (get_or t at []) source value) ≡ true → used ≡ deciding_of event state source value t used
    unfolding choose
    one_ignores h i = rw (row-replies h, i)

    pub one_decides : at < used → ignored (replied (get_or t at []) source value) ≡ false → at ≡ deciding_of event state source value t used
    unfolding choose
    one_decides h i = e ∙ rw (row-replies h, i)

  -- What that place says.
  module _ (t : List (List ℕ)) (used at : ℕ) (laid : TableLaid t used) (e : at ≡ deciding_of event state source value t used) where
    abbrev says : Reply
    says = reply (rules_in t used) event state source value

    found : (b : Bool) → ignored says ≡ b → at < used → (ignored says ≡ false) × (at ≡ first_of event state value (rules_in t used))
    unfolding choose
    found true i h = let z : at ≡ used = e ∙ rw i in absurd (omega arith)
    found false i h = (i, e ∙ rw i)

    pub place-counts : at < used → ignored says ≡ false
    place-counts h = (found _ refl h).0

    pub place-replies : at < used → says ≡ replied (get_or t at []) source value
    place-replies h = row-replies t used at laid (found _ refl h).1 h

    pub place-idle : used ≤ at → ignored says ≡ true
    unfolding choose
    place-idle h = go (ignored says) refl
      where
        go : (b : Bool) → ignored says ≡ b → ignored says ≡ true
        go true i = i
        go false i = none-ignored t used at laid (e ∙ rw i) h

-- ---- a start is an event in state 0
module _ (saved : Option ℕ) (t : List (List ℕ)) (used at : ℕ) (laid : TableLaid t used)
    (e : at ≡ first_of (start_event saved) 0 (start_value saved) (rules_in t used)) where
  start_is : (s : Option ℕ) → at_start (rules_in t used) s ≡ reply (rules_in t used) (start_event s) 0 nobody (start_value s)
  unfolding at_start start_event start_value
  start_is None = refl
  start_is (Some v) = refl

  pub start-replies : at < used → at_start (rules_in t used) saved ≡ replied (get_or t at []) nobody (start_value saved)
  start-replies h = start_is saved ∙ row-replies (start_event saved) 0 nobody (start_value saved) t used at laid e h

  pub start_none : used ≤ at → at_start (rules_in t used) saved ≡ record { touched = false; state = 0; out = [] }
  start_none h = start_is saved ∙ none-replies (start_event saved) 0 nobody (start_value saved) t used at laid e h
