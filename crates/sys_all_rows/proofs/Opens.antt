-- A system that is laid out and well formed, as rows: they stand as an action asks, and are that system.
-- Assumes nothing.
use Prim.Native.Nat.{ℕ, ◌≤◌, ◌<◌}
use native.Mathlib.Omega.{arith}
use mathlib.Core.Path.{◌≡◌, sym, ap, ◌∙◌, subst}
use mathlib.Core.Bool.{true}
use mathlib.Core.List.{List, [], map, zip_with}
use lib.ListN.{length, take, get_or, length-map}
use lib.Seq.{length-take-le, get_or-take}
use borrow.Author.Tests.{leb-true}
use Rattle.types.specs.Capacities.{most_actors}
use Rattle.types.specs.declared.Id.{Id}
use Rattle.types.specs.declared.Rule.{Rule}
use Rattle.lists.proofs.Members.{every-cons}
use Rattle.lists.proofs.Places.{length-pad, get-any}
use Rattle.rules.specs.Outcome.{base}
use Rattle.rules.specs.Network.{len}
use Rattle.rules.specs.System as rules
use Rattle.rules.specs.WellFormed.{well_formed}
use Rattle.net_layout.specs.Layout as net
use Rattle.net_network.specs.Views.{entry_list}
use Rattle.net_network.proofs.Changes.{cells-room, cells-net, cells-ready}
use Rattle.link_durable.specs.Views.{durable_fine, stored_fine}
use Rattle.link_inner.specs.declared.Table.{Table}
use Rattle.link_inner.specs.Views.{table_ok, zero_table}
use Rattle.sys_actor.specs.declared.Actor.{Actor}
use Rattle.sys_actor.specs.Views.{actor_as, actor_view, actor_fine, zero_actor}
use Rattle.sys_actor.proofs.Laws.{actor-kept}
use Rattle.sys_system.specs.declared.System.{System}
use Rattle.sys_system.specs.Views.{seated, sys_view, table_for, SystemLaid}
use Rattle.sys_system.proofs.Seats.{zip_length, zip_get}
use Rattle.sys_system.proofs.Laws.{formed-of, counted, net-ready, seat-ok, actor-at, table-is-ok}
use Rattle.sys_moves.specs.Views.{actor_at}
use Rattle.sys_all_rows.specs.Views.{Hall, Books, rows_at, rules_at, sys_of, Layable, ActorsLaid, TablesLaid, Stands}
use Rattle.sys_all_rows.proofs.Places.{each-is}

module _ (s : System) (laid : SystemLaid s) (formed : well_formed base (sys_view s) ≡ true) where
  abbrev l : List rules.Actor
  l = (sys_view s).actors

  pub one : 1 ≤ s.count
  one = let z = (formed-of (sys_view s) formed).one in let c = counted s laid formed in omega arith

  pub few : s.count ≤ most_actors
  few = let z = (formed-of (sys_view s) formed).few in let c = counted s laid formed in omega arith

  actors-room : length s.actors ≡ most_actors
  actors-room = ap (λ (x : System). length x.actors) laid ∙ length-pad most_actors zero_actor (map actor_as l)
      (let z = (formed-of (sys_view s) formed).few in let q = length-map l actor_as in omega arith)

  tables-room : length s.tables ≡ most_actors
  tables-room = ap (λ (x : System). length x.tables) laid ∙ length-pad most_actors zero_table (map table_for l)
      (let z = (formed-of (sys_view s) formed).few in let q = length-map l table_for in omega arith)

  -- ---- what laying out asks
  module _ (i : ℕ) (inside : i < s.count) where
    abbrev id : Id
    id = record { 0 = i }

    any-actor : (d : Actor) → get_or s.actors i d ≡ get_or s.actors i zero_actor
    any-actor d = let n = actors-room in let f = few in get-any s.actors i d zero_actor (omega arith)

    any-table : (d : Table) → get_or s.tables i d ≡ get_or s.tables i zero_table
    any-table d = let n = tables-room in let f = few in get-any s.tables i d zero_table (omega arith)

    fine : actor_fine (length l) (get_or s.actors i zero_actor) ≡ true
    fine = ap (actor_fine (length l)) (actor-at s laid formed id inside)
        ∙ actor-kept (length l) (rules.actor (sys_view s) id) (seat-ok s laid formed id inside) (formed-of (sys_view s) formed).few

    pub layable : (d : Actor) → Layable (get_or s.actors i d)
    unfolding actor_fine durable_fine stored_fine
    layable d =
        let a = every-cons _ _ fine in let b = every-cons _ _ a.1 in let c = every-cons _ _ b.1 in
        subst Layable (sym (any-actor d)) ((every-cons _ _ a.0).0, (every-cons _ _ c.0).0, leb-true _ _ b.0)

    pub table-ok : (d : Table) → table_ok (get_or s.tables i d) ≡ true
    table-ok d = ap table_ok (any-table d) ∙ table-is-ok s laid formed id inside

  -- ---- laid out
  module _ (cs : List (List ℕ)) (out : net.LaidOut (entry_list s.network) cs) (n : ℕ) (sum : n ≡ len (entry_list s.network))
      (h : Hall) (al : ActorsLaid s.actors s.count h) (b : Books) (tl : TablesLaid s.tables s.count b) where
    pub opens : Stands s.count s.network.kind s.network.used n b cs h
    opens = record {
      one = one;
      few = few;
      sized = al.sized;
      fine = λ i w. record {
        net = cells-ready s.network (net-ready s laid formed) cs out n sum;
        room = cells-room s.network (net-ready s laid formed) cs out;
        live = (al.rows i w zero_actor).live;
        kept = (al.rows i w zero_actor).kept;
      };
      tables = tl.rows;
    }

    abbrev ts : List Table
    ts = take s.count s.tables

    abbrev bs : List Actor
    bs = take s.count s.actors

    ts_length : length ts ≡ s.count
    ts_length = let m = tables-room in let f = few in length-take-le s.count s.tables (omega arith)

    bs-length : length bs ≡ s.count
    bs-length = let m = actors-room in let f = few in length-take-le s.count s.actors (omega arith)

    at_place : (i : ℕ) → i < s.count → actor_at (rules_at b i) (rows_at cs h i) ≡ get_or (zip_with seated ts bs) i (rules.unstarted [])
    at_place i w =
        let m = ts_length in let o = bs-length in
        (al.rows i w zero_actor).actor (rules_at b i)
        ∙ ap (λ (rs : List Rule). actor_view rs (get_or s.actors i zero_actor)) (tl.rules i w zero_table)
        ∙ sym (zip_get seated ts bs i zero_table zero_actor (rules.unstarted []) (omega arith) (omega arith)
        ∙ (λ j. seated (get_or-take s.count s.tables i zero_table w j) (get_or-take s.count s.actors i zero_actor w j)))

    pub opens-view : sys_of s.count s.network.kind s.network.last cs s.network.used b h ≡ sys_view s
    opens-view =
        let m = ts_length in let o = bs-length in
        let e = each-is (rules.unstarted []) (zip_with seated ts bs) s.count (λ i. actor_at (rules_at b i) (rows_at cs h i))
        (zip_length seated ts bs (omega arith) ∙ bs-length) at_place in
        let v = cells-net s.network (net-ready s laid formed) cs out in
        λ j. record { net = v j; actors = e j }
