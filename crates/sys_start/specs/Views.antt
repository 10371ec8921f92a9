-- The lists that a start is given, what it asks of them, and its outcome; and the parts that it is made of.
-- Assumes nothing.
use Rattle.std.specs.Prelude.{ℕ, ◌≤◌, ◌≡◌, Bool, true, false, ◌&&◌, List, [], ◌∷◌, map, length, take, leb, Option, None}
use Rattle.types.specs.Capacities.{most_entries, most_actors}
use Rattle.lists.specs.Lists.{◌∈◌, all, every}
use Rattle.types.specs.declared.Id.{Id}
use Rattle.types.specs.declared.Envelope.{Envelope}
use Rattle.types.specs.declared.Kind.{Kind}
use Rattle.types.specs.declared.Rule.{Rule}
use Rattle.answers.specs.Answers.{answer_number, is_done}
use Rattle.rules.specs.Outcome.{Outcome, done, refused, bind, guard, base}
use Rattle.rules.specs.Network.{Net}
use Rattle.rules.specs.System.{Sys, systems, unstarted, perform, wake}
use Rattle.rules.specs.System as rules
use Rattle.rules.specs.Start.{fill, wake_all, startable, start}
use Rattle.net_rows.specs.declared.Sent.{Sent}
use Rattle.net_rows.specs.Views.{net_of, NetReady}
use Rattle.link_inner.specs.declared.Table.{Table}
use Rattle.link_inner.specs.Views.{rules_of, table_ok}
use Rattle.sys_actor.specs.declared.Actor.{Actor}
use Rattle.sys_actor.specs.Views.{ActorLaid}
use Rattle.sys_seat.specs.Seat.{Around, holding}
use Rattle.sys_system.specs.Views.{TableLaid, table_laid, seated}
use Rattle.sys_start.specs.declared.Given.{Given}

-- The used ones.
abbrev pub given_view : Given → List Envelope
given_view g = take g.used g.list

-- The rules of the first `count` tables.
abbrev pub tables_view : ℕ → List Table → List (List Rule)
tables_view count tables = map rules_of (take count tables)

-- The counts fit, and each of the first `count` tables is laid out.
unfoldable pub start_laid : ℕ → List Table → Given → Bool
start_laid count tables g = every (leb count most_actors ∷ all table_laid (take count tables) ∷ leb g.used most_entries ∷ [])

-- The start: 10 for what the lists cannot show, then what the rules say.
unfoldable pub started : ℕ → ℕ → List Table → Given → Outcome Sys
started kind count tables g = systems (guard (start_laid count tables g) 10 (start base (record { kind = kind }) (tables_view count tables) (given_view g)))

-- The kind is one, and the counts are within their places.
abbrev pub counts_fit : ℕ → ℕ → ℕ → Bool
counts_fit kind count used = leb 1 count && leb count most_actors && leb kind 2 && leb used most_entries

-- Every reason for 10.
unfoldable pub start_fine : ℕ → ℕ → List Table → Given → Bool
start_fine kind count tables g = start_laid count tables g && startable (record { kind = kind }) (tables_view count tables) (given_view g)

-- ---- the given envelopes
-- A network of a kind with nothing on it.
abbrev pub empty_net : Kind → Net
empty_net k = record { kind = k; entries = []; last = None }

-- These actors, with the network that the used cells are: no message was delivered yet.
abbrev pub sys_on : Kind → List (List ℕ) → ℕ → List rules.Actor → Sys
sys_on k cs used l = record { net = net_of k None cs used; actors = l }

-- Envelopes sent on an empty network, whatever the actors: done, and the cells hold them; else the answer is the rules'.
pub record Filled (k : Kind) (es : List Envelope) (r : Sent) (cs : List (List ℕ)) : Type 0 where
  pub net : NetReady k cs r.used r.len
  pub room : length cs ≡ most_entries
  pub runs : is_done r.answer ≡ true → (l : List rules.Actor) → fill base.room es (record { net = empty_net k; actors = l })
      ≡ done (sys_on k cs r.used l)
  pub stops : is_done r.answer ≡ false → (l : List rules.Actor)
      → fill base.room es (record { net = empty_net k; actors = l }) ≡ refused (answer_number r.answer)

-- ---- one actor
-- The start of the actor in its seat.
abbrev pub waking : (me : Id) → Around me → Net → Table → Outcome Sys
waking me hall n t = systems (bind (wake base.limits me (holding me hall n (unstarted (rules_of t)))) (perform base.room))

-- Done: every system that held it unstarted holds it woken, as the rules say; else the answer is the rules'.
pub record Wakes (k : Kind) (used : ℕ) (t : Table) (me : Id) (cs : List (List ℕ)) (r : Sent) (b : Actor) (cs' : List (List ℕ)) : Type 0 where
  pub net : NetReady k cs' r.used r.len
  pub room : length cs' ≡ most_entries
  pub actor : ActorLaid b
  pub runs : is_done r.answer ≡ true → (hall : Around me) (last : Option Envelope)
      → waking me hall (net_of k last cs used) t ≡ done (holding me hall (net_of k last cs' r.used) (seated t b))
  pub stops : is_done r.answer ≡ false → (hall : Around me) (last : Option Envelope)
      → waking me hall (net_of k last cs used) t ≡ refused (answer_number r.answer)

-- ---- all of them
-- Cells and tables that a start goes on with.
pub record Awaiting (k : Kind) (cs : List (List ℕ)) (used n count : ℕ) (tables : List Table) : Type 0 where
  pub net : NetReady k cs used n
  pub room : length cs ≡ most_entries
  pub few : count ≤ most_actors
  pub fine : all table_ok (take count tables) ≡ true
  pub laid : (t : Table) → t ∈ take count tables → TableLaid t

-- The actors of these tables before any start.
abbrev pub asleep : ℕ → List Table → List rules.Actor
asleep count tables = map unstarted (tables_view count tables)

abbrev pub waking_all : Kind → List (List ℕ) → ℕ → ℕ → List Table → Outcome Sys
waking_all k cs used count tables = systems (wake_all base 0 (asleep count tables) (sys_on k cs used (asleep count tables)))
