-- What the types say of any system: how long its arrays are, and those of its actors, tables and rules.
-- Assumes nothing.
use mathlib.Core.Path.{◌≡◌}
use mathlib.Core.List.Memᴰ
use mathlib.Core.List.{List, [], ◌∷◌}
use lib.ListN.{length}
use mir.Val.{Val}
use base.Fml.{Fml}
use denote.Shadow.{shadow}
use denote.Array.{each}
use denote.Struct.Declared.{row}
use borrow.Author.Rules.{rules}
use Rattle.types.specs.Capacities.{most_entries, most_actors, most_rules, most_commands}
use Rattle.lists.specs.Lists.{◌∈◌}
use Rattle.lists.proofs.Places.{length-mapped}
use Rattle.types.specs.declared.Rule.{Rule}
use Rattle.types.specs.contracts.Rule as rule
use Rattle.link_inner.specs.declared.Table.{Table}
use Rattle.link_inner.specs.contracts.Table as table
use Rattle.sys_actor.specs.declared.Actor.{Actor}
use Rattle.sys_actor.specs.contracts.Actor as actor
use Rattle.sys_actor.proofs.Laws.{Typed}
use Rattle.sys_actor.proofs.Says.{actor-says}
use Rattle.sys_system.specs.declared.System.{System}
use Rattle.sys_system.specs.contracts.System as system

-- What is told of each element's value is told of each element.
pub each-says : {A : Type 0} (f : A → List Val → Fml) (P : A → Type 0) → ((x : A) (u : List Val) → shadow (f x u) → P x)
    → (xs : List A) (us : List Val) → shadow (each A f xs us) → (x : A) → x ∈ xs → P x
each-says f P h [] us g x m = elim m [ ]
each-says f P h (y ∷ xs) [] g x m = absurd g
each-says f P h (y ∷ xs) (u ∷ us) g x (Memᴰ.head e) = rw e (h y (u ∷ []) g.0)
each-says f P h (y ∷ xs) (u ∷ us) g x (Memᴰ.tail m) = each-says f P h xs us g.1 x m

pub record TableTyped (t : Table) : Type 0 where
  pub room : length t.rules ≡ most_rules
  pub slots : (r : Rule) → r ∈ t.rules → length r.commands ≡ most_commands

pub record SystemTyped (s : System) : Type 0 where
  pub entries : length s.network.entries ≡ most_entries
  pub actors : length s.actors ≡ most_actors
  pub tables : length s.tables ≡ most_actors
  pub actor : (a : Actor) → a ∈ s.actors → Typed a
  pub table : (t : Table) → t ∈ s.tables → TableTyped t

rule-says : (r : Rule) (u : List Val) → shadow ((rule.the_row).own_val r u) → length r.commands ≡ most_commands
rule-says r u g = search (rules, length-mapped)

pub table-says : (t : Table) (u : List Val) → shadow ((table.the_row).own_val t u) → TableTyped t
table-says t u g = record {
  room = search (rules, length-mapped);
  slots = each-says (rule.the_row).own_val (λ r. length r.commands ≡ most_commands) rule-says t.rules g.1.1.0.0
      g.1.1.0.1.1;
}

pub system-says : (s : System) (u : List Val) → shadow ((row system.the_type).own_val s u) → SystemTyped s
system-says s u g = record {
  entries = search (rules, length-mapped, g.1.1.1.0);
  actors = search (rules, length-mapped, g.1.1.1.1.0);
  tables = search (rules, length-mapped, g.1.1.1.1.1.0);
  actor = each-says (actor.the_row).own_val Typed actor-says s.actors g.1.1.1.1.0.0 g.1.1.1.1.0.1.1;
  table = each-says (table.the_row).own_val TableTyped table-says s.tables g.1.1.1.1.1.0.0 g.1.1.1.1.1.0.1.1;
}
