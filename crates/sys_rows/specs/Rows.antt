-- The actor that four rows are, and that a struct of them is; the rules that the rows of a table are; what a handler leaves.
-- Assumes nothing.
use Rattle.std.specs.Prelude.{ℕ, zero, suc, ◌+◌, ◌≤◌, ◌<◌, ◌≡◌, List, length, take, drop, get_or, set, replicate, leb, Option, Some, None}
use Rattle.lists.specs.Lists.{choose}
use Rattle.types.specs.Capacities.{most_pending, most_actors, last_state}
use Rattle.types.specs.declared.Rule.{Rule}
use Rattle.rules.specs.Link.{Durable, with_taken}
use Rattle.rules.specs.System.{Actor}
use Rattle.link_timers.specs.Views.{listed}
use Rattle.link_tables.specs.Rows.{mark, TableLaid, rules_in}
use Rattle.link_rows.specs.Rows.{row_size, durable_in, HeadLaid}
use Rattle.sys_rows.specs.declared.ActorRows.{ActorRows}
use Rattle.sys_rows.specs.declared.TableRows.{TableRows}

unfoldable pub stored_in : ℕ → Durable → Option Durable
stored_in zero d = None
stored_in (suc n) d = Some d

-- The live row of an actor before any start: next number 1, and all else 0.
abbrev pub fresh_row : List ℕ
fresh_row = set (replicate row_size 0) 0 1

-- Those rows, and rows of zeros for what is stored: nothing is.
abbrev pub fresh_rows : ActorRows
fresh_rows = record {
  live = fresh_row;
  pend = replicate most_pending (replicate 4 0);
  kept = replicate row_size 0;
  stored = replicate most_pending (replicate 4 0);
}

-- The live row has the marks: 5 crashed, 6 timers, 7 state. In the stored one place 5 says that something is stored.
unfoldable pub actor_of : List Rule → List ℕ → List (List ℕ) → List ℕ → List (List ℕ) → Actor
actor_of rs w p k q = record {
  rules = rs;
  crashed = mark (get_or w 5 0);
  timers = listed (get_or w 6 0);
  link = record { durable = durable_in w p; state = get_or w 7 0 };
  storage = stored_in (get_or k 5 0) (durable_in k q);
}

-- The actor that all its rows are.
abbrev pub actor_in : List Rule → ActorRows → Actor
actor_in rs x = actor_of rs x.live x.pend x.kept x.stored

-- The rules that the rows of a table are, and such rows as rules are laid out in.
abbrev pub listed_rules : TableRows → List Rule
listed_rules t = rules_in t.rows t.used

abbrev pub RulesLaid : TableRows → Type 0
RulesLaid t = TableLaid t.rows t.used

-- From place 4 on: the count of sources, the marks, and the numbers last taken; those that are not counted are 0.
pub record TailLaid (t : List ℕ) : Type 0 where
  pub sources : get_or t 0 0 ≤ most_actors
  pub timers : get_or t 2 0 < 4294967296
  pub state : get_or t 3 0 ≤ last_state
  pub rest : (i : ℕ) → get_or t 0 0 ≤ i → i < most_actors → get_or t (4 + i) 0 ≡ 0

pub record RowsLaid (w : List ℕ) (p : List (List ℕ)) : Type 0 where
  pub room : length w ≡ row_size
  pub places : length p ≡ most_pending
  pub pending : get_or w 1 0 ≤ most_pending
  pub head : HeadLaid w p
  pub tail : TailLaid (drop 4 w)

-- What a handler leaves of the live rows: a durable part, timers and a state.
pub record Settled (d : Durable) (t s : ℕ) (w : List ℕ) (w' : List ℕ) (p' : List (List ℕ)) : Type 0 where
  pub durable : durable_in w' p' ≡ d
  pub crashed : get_or w' 5 0 ≡ get_or w 5 0
  pub timers : get_or w' 6 0 ≡ t
  pub state : get_or w' 7 0 ≡ s
  pub laid : RowsLaid w' p'

-- The live rows are stored: the row with its mark, and the pending records that are counted.
pub record Kept (w : List ℕ) (p : List (List ℕ)) (k : List ℕ) (q : List (List ℕ)) : Type 0 where
  pub row : k ≡ set w 5 1
  pub records : take (get_or w 1 0) q ≡ take (get_or w 1 0) p
  pub places : length q ≡ most_pending

-- The same of all the rows of an actor: what is not named stays.
pub record SettledIn (d : Durable) (t s : ℕ) (x x' : ActorRows) : Type 0 where
  pub live : Settled d t s x.live x'.live x'.pend
  pub kept : x'.kept ≡ x.kept
  pub stored : x'.stored ≡ x.stored

pub record KeptIn (x x' : ActorRows) : Type 0 where
  pub kept : Kept x.live x.pend x'.kept x'.stored
  pub live : x'.live ≡ x.live
  pub pend : x'.pend ≡ x.pend

-- The row with a number last taken: it stands at the place of its source, which is counted. All else stays.
abbrev pub taken_row : ℕ → ℕ → List ℕ → List ℕ
taken_row source number w = set (set w (8 + source) number) 4 (choose (leb (get_or w 4 0) source) (source + 1) (get_or w 4 0))

-- A number last taken is noted: that is the row, and the durable part is the rules' one. Rows that were laid out are so still.
pub record Noticed (source number : ℕ) (w w' : List ℕ) : Type 0 where
  pub row : w' ≡ taken_row source number w
  pub durable : (p : List (List ℕ)) → durable_in w' p ≡ with_taken (record { 0 = source }) (record { 0 = number }) (durable_in w p)
  pub laid : (p : List (List ℕ)) → RowsLaid w p → RowsLaid w' p
