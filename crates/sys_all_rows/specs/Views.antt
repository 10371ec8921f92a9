-- The rows of a whole system, the system that they are, what it is to be laid out as rows, and what an action leaves of them.
-- Assumes nothing.
use Rattle.std.specs.Prelude.{ℕ, zero, suc, ◌≤◌, ◌<◌, ◌≡◌, true, false, List, [], ◌∷◌, length, get_or, Option}
use Rattle.types.specs.Capacities.{most_actors, last_state}
use Rattle.types.specs.declared.Kind.{Kind}
use Rattle.types.specs.declared.Action.{Action}
use Rattle.types.specs.declared.Rule.{Rule}
use Rattle.types.specs.declared.Envelope.{Envelope}
use Rattle.answers.specs.Answers.{answer_number, is_done}
use Rattle.rules.specs.Outcome.{done, refused, base}
use Rattle.rules.specs.System.{Sys, systems, act}
use Rattle.net_rows.specs.declared.Sent.{Sent}
use Rattle.net_rows.specs.Views.{net_of}
use Rattle.link_durable.specs.Views.{durable_laid, stored_laid}
use Rattle.link_inner.specs.declared.Table.{Table}
use Rattle.link_inner.specs.Views.{rules_of}
use Rattle.sys_actor.specs.declared.Actor.{Actor}
use Rattle.sys_rows.specs.declared.ActorRows.{ActorRows}
use Rattle.sys_rows.specs.declared.TableRows.{TableRows}
use Rattle.sys_rows.specs.Rows.{listed_rules, RulesLaid}
use Rattle.sys_layout.specs.Views.{LaidOut}
use Rattle.sys_moves.specs.Views.{Rows, rows_in, actor_at, Fine, last_then}

-- What f gives for each of the first places.
module _ {A : Type 0} where
  unfoldable pub each : ℕ → (ℕ → A) → List A
  each zero f = []
  each (suc n) f = f 0 ∷ each n (λ i. f (suc i))

-- ---- the rows
-- Those of every actor, and those of every table: no step changes these.
abbrev pub Hall : Type 0
Hall = List ActorRows

abbrev pub Books : Type 0
Books = List TableRows

-- What stands beyond the last place.
abbrev pub no_actor : ActorRows
no_actor = record { live = []; pend = []; kept = []; stored = [] }

abbrev pub no_table : TableRows
no_table = record { rows = []; used = 0 }

-- What a step of the actor at a place is lent: the network's cells, and its own rows.
abbrev pub rows_at : List (List ℕ) → Hall → ℕ → Rows
rows_at cs h i = rows_in cs (get_or h i no_actor)

abbrev pub rules_at : Books → ℕ → List Rule
rules_at b i = listed_rules (get_or b i no_table)

-- The system of the first `count` actors. No row holds the last message.
abbrev pub sys_of : ℕ → Kind → Option Envelope → List (List ℕ) → ℕ → Books → Hall → Sys
sys_of count kind last cs used b h = record { net = net_of kind last cs used; actors = each count (λ i. actor_at (rules_at b i) (rows_at cs h i)) }

-- ---- laid out
-- An actor that can be: its unused places are zero, and its state is one of those that there are.
abbrev pub Layable : Actor → Type 0
Layable a = (durable_laid a.link.durable ≡ true) × (stored_laid a.stored ≡ true) × (a.link.state ≤ last_state)

-- The first n actors, and the first n tables, are laid out. (What stands beyond an array does not matter.)
pub record ActorsLaid (actors : List Actor) (n : ℕ) (h : Hall) : Type 0 where
  pub sized : length h ≡ most_actors
  pub rows : (i : ℕ) → i < n → (d : Actor) → LaidOut (get_or actors i d) (get_or h i no_actor)

pub record TablesLaid (tables : List Table) (n : ℕ) (b : Books) : Type 0 where
  pub room : length b ≡ most_actors
  pub rules : (i : ℕ) → i < n → (d : Table) → rules_at b i ≡ rules_of (get_or tables i d)
  pub rows : (i : ℕ) → i < n → RulesLaid (get_or b i no_table)

-- ---- what an action asks of the rows, and leaves
pub record Stands (count : ℕ) (kind : Kind) (used n : ℕ) (b : Books) (cs : List (List ℕ)) (h : Hall) : Type 0 where
  pub one : 1 ≤ count
  pub few : count ≤ most_actors
  pub sized : length h ≡ most_actors
  pub fine : (i : ℕ) → i < count → Fine kind used n (rows_at cs h i)
  pub tables : (i : ℕ) → i < count → RulesLaid (get_or b i no_table)

-- Done: the rows are the system that the rules say, whatever the last message was; else the answer is the rules', and everything is as it was.
pub record Moved (count : ℕ) (a : Action) (kind : Kind) (used n : ℕ) (b : Books) (cs : List (List ℕ)) (h : Hall) (r : Sent)
    (cs' : List (List ℕ)) (h' : Hall) : Type 0 where
  pub stands : Stands count kind r.used r.len b cs' h'
  pub runs : is_done r.answer ≡ true → (last : Option Envelope)
      → systems (act base (sys_of count kind last cs used b h) a) ≡ done (sys_of count kind (last_then kind a last) cs' r.used b h')
  pub stops : is_done r.answer ≡ false → (last : Option Envelope)
      → systems (act base (sys_of count kind last cs used b h) a) ≡ refused (answer_number r.answer)
  pub same : is_done r.answer ≡ false → (cs' ≡ cs) × (h' ≡ h) × (r.used ≡ used) × (r.len ≡ n)
