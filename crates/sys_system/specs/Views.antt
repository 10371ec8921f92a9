-- The rules' system that the struct holds, the struct that holds one, and the whole test of a system.
-- Assumes nothing.
use Rattle.std.specs.Prelude.{◌≡◌, Bool, length, take, drop, leb, eqb}
use mathlib.Core.List.{[], ◌∷◌, map, zip_with}
use Rattle.types.specs.Capacities.{most_actors, most_rules}
use Rattle.lists.specs.Lists.{all, every, pad}
use Rattle.rules.specs.Outcome.{base}
use Rattle.rules.specs.System as rules
use Rattle.rules.specs.WellFormed.{well_formed}
use Rattle.net_network.specs.Views.{net_view, network_of}
use Rattle.net_formed.specs.Formed.{laid_out}
use Rattle.link_inner.specs.declared.Table.{Table}
use Rattle.link_inner.specs.Views.{rules_of, table_as, zero_table, blank_rule}
use Rattle.sys_actor.specs.declared.Actor.{Actor}
use Rattle.sys_actor.specs.Views.{actor_view, actor_as, actor_laid, zero_actor, blank_actor}
use Rattle.sys_system.specs.declared.System.{System}

-- ---- a table is that of its rules
abbrev pub TableLaid : Table → Type 0
TableLaid t = t ≡ table_as (rules_of t)

-- ---- the system
-- An actor with the rules of its table.
abbrev pub seated : Table → Actor → rules.Actor
seated t a = actor_view (rules_of t) a

-- The first `count` actors.
abbrev pub sys_view : System → rules.Sys
sys_view s = record { net = net_view s.network; actors = zip_with seated (take s.count s.tables) (take s.count s.actors) }

abbrev pub table_for : rules.Actor → Table
table_for a = table_as a.rules

abbrev pub system_of : rules.Sys → System
system_of m = record {
  count = length m.actors;
  network = network_of m.net;
  actors = pad most_actors zero_actor (map actor_as m.actors);
  tables = pad most_actors zero_table (map table_for m.actors);
}

-- The struct is that of what it holds: what is not used is zero.
abbrev pub SystemLaid : System → Type 0
SystemLaid s = s ≡ system_of (sys_view s)

-- ---- the test of any content
unfoldable pub table_laid : Table → Bool
table_laid t = every (leb t.used most_rules ∷ all blank_rule (drop t.used t.rules) ∷ [])

unfoldable pub blank_table : Table → Bool
blank_table t = every (eqb t.used 0 ∷ table_laid t ∷ [])

-- The count fits, each part in use is laid out, and the others are zero.
unfoldable pub system_laid : System → Bool
system_laid s = every
    (leb s.count most_actors ∷ laid_out s.network
    ∷ all actor_laid (take s.count s.actors) ∷ all table_laid (take s.count s.tables)
    ∷ all blank_actor (drop s.count s.actors) ∷ all blank_table (drop s.count s.tables) ∷ [])

unfoldable pub system_fine : System → Bool
system_fine s = every (system_laid s ∷ well_formed base (sys_view s) ∷ [])
