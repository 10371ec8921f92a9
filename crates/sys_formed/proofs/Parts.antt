-- The test of a system has five parts: two of its count, its network, the places in use, the free ones.
-- Assumes nothing.
use Rattle.std.proofs.Common.{◌≡◌, Bool, true, false, ◌&&◌, take, drop, leb, refl, sym, ◌∙◌}
use mathlib.Core.Bool.{and-true}
use Rattle.types.specs.Capacities.{most_actors}
use Rattle.lists.specs.Lists.{all, every}
use Rattle.net_formed.specs.Formed.{net_formed}
use Rattle.link_inner.specs.Views.{table_ok}
use Rattle.sys_actor.specs.Views.{actor_fine, blank_actor}
use Rattle.sys_actor.proofs.Laws.{tells}
use Rattle.sys_system.specs.declared.System.{System}
use Rattle.sys_system.specs.Views.{SystemLaid, blank_table, system_fine}
use Rattle.sys_system.proofs.Types.{SystemTyped}
use Rattle.sys_system.proofs.Laws.{fine-laid, fine-tests}

grouped : (a b c d e f g : Bool) → (a && (b && (c && (d && (e && (f && (g && true))))))) ≡ (a && (b && (c && ((d && e) && (f && g)))))
grouped true true true true true f g = rw (and-true g)
grouped true true true true false f g = refl
grouped true true true false e f g = refl
grouped true true false d e f g = refl
grouped true false c d e f g = refl
grouped false b c d e f g = refl

module _ (s : System) (typed : SystemTyped s) where
  abbrev used : Bool
  used = all (actor_fine s.count) (take s.count s.actors) && all table_ok (take s.count s.tables)

  abbrev free : Bool
  free = all blank_actor (drop s.count s.actors) && all blank_table (drop s.count s.tables)

  abbrev asked : Bool
  asked = leb 1 s.count && (leb s.count most_actors && (net_formed s.network s.count && (used && free)))

  -- An answer that is the parts' is the test's, and is true of systems that are laid out alone.
  pub told : (r : Bool) → asked ≡ r → (r ≡ system_fine s) × (r ≡ true → SystemLaid s)
  unfolding every
  told r e = tells (system_fine s) r (fine-laid s typed) (sym (fine-tests s typed
      ∙ grouped (leb 1 s.count) (leb s.count most_actors) (net_formed s.network s.count)
      (all (actor_fine s.count) (take s.count s.actors)) (all table_ok (take s.count s.tables)) (all blank_actor (drop s.count s.actors))
      (all blank_table (drop s.count s.tables)) ∙ e))
