-- What the test of a system says: one that passes is laid out and well formed; and the struct of a well-formed system passes.
-- Assumes nothing.
use Prim.Native.Nat.{ℕ, ◌≤◌, ◌<◌}
use native.Mathlib.Omega.{arith}
use mathlib.Core.Path.{◌≡◌, refl, sym, ap, subst, ◌∙◌}
use mathlib.Core.Bool.{Bool, true, false}
use mathlib.Core.List.Memᴰ
use mathlib.Core.List.{List, [], ◌∷◌, map, zip_with}
use lib.ListN.{length, take, drop, get_or, length-map, take-append-drop}
use lib.Seq.{length-take-le}
use lib.Dec.{leb}
use borrow.Author.Tests.{leb-true, le-leb}
use Rattle.types.specs.Capacities.{most_entries, most_actors}
use Rattle.lists.specs.Lists.{◌∈◌, all, every, pad}
use Rattle.lists.proofs.Members.{every-cons, every-make, every-nil, all_in, all-make, and_both, and-make, get_in}
use Rattle.lists.proofs.Places.{length-pad, get_or-pad, map_get, pad-view}
use Rattle.lists.proofs.Walks.{all_map}
use Rattle.types.specs.declared.Id.{Id}
use Rattle.types.specs.declared.Rule.{Rule}
use Rattle.rules.specs.Outcome.{base}
use Rattle.rules.specs.Network.{Net}
use Rattle.rules.specs.System as rules
use Rattle.rules.specs.WellFormed.{net_ok, actor_ok, well_formed}
use Rattle.net_network.specs.Views.{zero_entry, net_view, network_of, NetLaid, NetReady}
use Rattle.net_network.proofs.Changes.{held}
use Rattle.net_network.proofs.Ready.{ready-of-ok, viewed, laid_of}
use Rattle.net_formed.specs.Formed.{laid_out, net_formed}
use Rattle.net_formed.proofs.Laws.{laid_out_lem, laid-passes}
use Rattle.link_inner.specs.declared.Table.{Table}
use Rattle.link_inner.specs.Views.{table_ok}
use Rattle.sys_actor.specs.declared.Actor.{Actor}
use Rattle.sys_actor.specs.Views.{actor_as, actor_view, actor_laid, actor_fine, zero_actor, blank_actor}
use Rattle.sys_actor.proofs.Laws.{actor-laid, actor-back, actor-kept, fine-laid-out, timers-of, rules-of, blank-zero, zero-blank}
use Rattle.sys_system.specs.declared.System.{System}
use Rattle.link_inner.specs.Views.{zero_table}
use Rattle.sys_system.specs.Views.{seated, table_for, sys_view, system_of, SystemLaid, table_laid, blank_table, system_laid, system_fine}
use Rattle.sys_system.proofs.Types.{SystemTyped}
use Rattle.sys_system.proofs.Tables.{pad-rest, all_same, drop-in, rest-same, table-laid, table-parts, table-make, blank-table, rules-back, table_kept}
use Rattle.sys_system.proofs.Tables as tables
use Rattle.sys_system.proofs.Seats.{zip_length, actors-again, tables-again, seats-formed, seats-fine, seen-again}

pub take_in : {A : Type 0} (n : ℕ) (l : List A) (x : A) → x ∈ take n l → x ∈ l
take_in {A} n l x m = subst (λ (k : List A). x ∈ k) (take-append-drop n l) (Memᴰ.append_left (drop n l) m)

-- Two tests that pass together are one.
pub same_true : (a b : Bool) → (a ≡ true → b ≡ true) → (b ≡ true → a ≡ true) → a ≡ b
same_true true b f g = sym (f refl)
same_true false true f g = g refl
same_true false false f g = refl

few-of : (k : ℕ) (m : Net) → net_ok base.room k m ≡ true → length m.entries ≤ most_entries
unfolding net_ok
few-of k m e = leb-true _ _ (every-cons _ _ e).0

-- ---- the parts of the layout's test
pub record Parts (s : System) : Type 0 where
  pub few : s.count ≤ most_actors
  pub net : laid_out s.network ≡ true
  pub actors : all actor_laid (take s.count s.actors) ≡ true
  pub tables : all table_laid (take s.count s.tables) ≡ true
  pub no-actors : all blank_actor (drop s.count s.actors) ≡ true
  pub no-tables : all blank_table (drop s.count s.tables) ≡ true

parts-of : (s : System) → system_laid s ≡ true → Parts s
unfolding system_laid
parts-of s e =
    let a = every-cons _ _ e in let b = every-cons _ _ a.1 in let c = every-cons _ _ b.1 in let d = every-cons _ _ c.1 in
    let f = every-cons _ _ d.1 in
    record { few = leb-true _ _ a.0; net = b.0; actors = c.0; tables = d.0; no-actors = f.0; no-tables = (every-cons _ _ f.1).0 }

of_parts : (s : System) → Parts s → system_laid s ≡ true
unfolding system_laid
of_parts s p = every-make _ _ (le-leb _ _ p.few) (every-make _ _ p.net
    (every-make _ _ p.actors (every-make _ _ p.tables (every-make _ _ p.no-actors (every-make _ _ p.no-tables every-nil)))))

-- ---- the parts of the rules' test
pub record Formed (m : rules.Sys) : Type 0 where
  pub one : 1 ≤ length m.actors
  pub few : length m.actors ≤ most_actors
  pub net : net_ok base.room (length m.actors) m.net ≡ true
  pub actors : all (actor_ok base.limits (length m.actors)) m.actors ≡ true

pub formed-of : (m : rules.Sys) → well_formed base m ≡ true → Formed m
unfolding well_formed
formed-of m e =
    let a = every-cons _ _ e in let b = every-cons _ _ a.1 in let c = every-cons _ _ b.1 in
    record { one = leb-true _ _ a.0; few = leb-true _ _ b.0; net = c.0; actors = (every-cons _ _ c.1).0 }

of-formed : (m : rules.Sys) → Formed m → well_formed base m ≡ true
unfolding well_formed
of-formed m f = every-make _ _ (le-leb _ _ f.one) (every-make _ _ (le-leb _ _ f.few) (every-make _ _ f.net (every-make _ _ f.actors every-nil)))

-- ---- a system that passes
module _ (s : System) (y : SystemTyped s) where
  abbrev ts : List Table
  ts = take s.count s.tables

  abbrev bs : List Actor
  bs = take s.count s.actors

  many : s.count ≤ most_actors → length bs ≡ s.count
  many h = let n = y.actors in length-take-le s.count s.actors (omega arith)

  paired : s.count ≤ most_actors → length ts ≡ length bs
  paired h = let n = y.tables in length-take-le s.count s.tables (omega arith) ∙ sym (many h)

  seen : s.count ≤ most_actors → length (sys_view s).actors ≡ s.count
  seen h = zip_length seated ts bs (paired h) ∙ many h

  pub system-laid : system_laid s ≡ true → SystemLaid s
  system-laid e =
      let p = parts-of s e in
      let n = sym (seen p.few) in
      let w = held s.network (laid_out_lem s.network y.entries p.net) in
      let za = all_same blank_actor zero_actor (drop s.count s.actors) (λ a m. blank-zero a (y.actor a (drop-in s.count s.actors a m)))
      p.no-actors in
      let zt = all_same blank_table zero_table (drop s.count s.tables) (λ t m. blank-table t (y.table t (drop-in s.count s.tables t m)))
      p.no-tables in
      let la = actors-again ts bs (paired p.few) (λ a m. actor-laid a (y.actor a (take_in s.count s.actors a m)) (all_in _ _ p.actors a m)) in
      let lt = tables-again ts bs (paired p.few) (λ t m. table-laid t (y.table t (take_in s.count s.tables t m)) (all_in _ _ p.tables t m)) in
      let a = rest-same zero_actor most_actors s.actors s.count y.actors p.few za ∙ ap (pad most_actors zero_actor) la in
      let t = rest-same zero_table most_actors s.tables s.count y.tables p.few zt ∙ ap (pad most_actors zero_table) lt in
      λ i. record { count = n i; network = w i; actors = a i; tables = t i }

  pub fine-formed : system_fine s ≡ true → well_formed base (sys_view s) ≡ true
  unfolding system_fine
  fine-formed e = (every-cons _ _ (every-cons _ _ e).1).0

  pub fine-laid : system_fine s ≡ true → SystemLaid s
  unfolding system_fine
  fine-laid e = system-laid (every-cons _ _ e).0

-- ---- the struct of a well-formed system
module _ (m : rules.Sys) (ok : well_formed base m ≡ true) where
  abbrev f : Formed m
  f = formed-of m ok

  mapped : {B : Type 0} (g : rules.Actor → B) (z : B) → take (length m.actors) (pad most_actors z (map g m.actors)) ≡ map g m.actors
  mapped {B} g z =
      ap (λ (k : ℕ). take k (pad most_actors z (map g m.actors))) (sym (length-map m.actors g)) ∙ pad-view most_actors z (map g m.actors)

  few-entries : length m.net.entries ≤ most_entries
  few-entries = few-of (length m.actors) m.net f.net

  pub system-back : sys_view (system_of m) ≡ m
  system-back =
      let n = viewed m.net few-entries in
      let t = mapped table_for zero_table in let a = mapped actor_as zero_actor in
      let l = (λ i. zip_with seated (t i) (a i)) ∙ seen-again (length m.actors) m.actors f.actors in
      λ i. record { net = n i; actors = l i }

  pub image-laid : SystemLaid (system_of m)
  image-laid = ap system_of (sym system-back)

  rest-blank : {B : Type 0} (g : rules.Actor → B) (p : B → Bool) (z : B) → p z ≡ true
      → all p (drop (length m.actors) (pad most_actors z (map g m.actors))) ≡ true
  rest-blank g p z e = ap (λ (k : ℕ). all p (drop k (pad most_actors z (map g m.actors)))) (sym (length-map m.actors g))
      ∙ pad-rest p z e most_actors (map g m.actors)

  each-kept : {B : Type 0} (g : rules.Actor → B) (p : B → Bool) (z : B)
      → ((a : rules.Actor) → actor_ok base.limits (length m.actors) a ≡ true → p (g a) ≡ true)
      → all p (take (length m.actors) (pad most_actors z (map g m.actors))) ≡ true
  each-kept g p z h = ap (all p) (mapped g z) ∙ sym (all_map p g m.actors) ∙ all-make _ _ (λ a i. h a (all_in _ _ f.actors a i))

  pub image-fine : system_fine (system_of m) ≡ true
  unfolding system_fine
  image-fine =
      let k = length m.actors in
      every-make _ _ (of_parts (system_of m) (record {
        few = f.few;
        net = laid-passes (network_of m.net) (length-pad most_entries zero_entry m.net.entries few-entries) (laid_of m.net few-entries);
        actors = each-kept actor_as actor_laid zero_actor (λ a e. fine-laid-out k (actor_as a) (actor-kept k a e f.few));
        tables = each-kept table_for table_laid zero_table (λ a e. table_kept a.rules (rules-of k a e));
        no-actors = rest-blank actor_as blank_actor zero_actor zero-blank;
        no-tables = rest-blank table_for blank_table zero_table tables.zero-blank;
      })) (every-make _ _ (rw system-back ok) every-nil)

-- ---- what a step may use: a system that is laid out and well formed
module _ (s : System) (laid : SystemLaid s) (ok : well_formed base (sys_view s) ≡ true) where
  abbrev l : List rules.Actor
  l = (sys_view s).actors

  abbrev g : Formed (sys_view s)
  g = formed-of (sys_view s) ok

  pub counted : s.count ≡ length l
  counted = ap (λ (x : System). x.count) laid

  pub net-ready : NetReady s.network
  net-ready =
      ready-of-ok (length l) s.network
      (subst NetLaid (sym (ap (λ (x : System). x.network) laid)) (laid_of (net_view s.network) (few-of (length l) (net_view s.network) g.net)))
      g.net

  module _ (i : Id) (known : i.0 < s.count) where
    abbrev here : rules.Actor
    here = rules.actor (sys_view s) i

    inside : i.0 < length l
    inside = let c = counted in omega arith

    pub seat-ok : actor_ok base.limits (length l) here ≡ true
    unfolding rules.actor
    seat-ok = all_in _ _ g.actors here (get_in l i.0 (rules.unstarted []) inside)

    -- the actor and the table at its place
    pub actor-at : get_or s.actors i.0 zero_actor ≡ actor_as here
    unfolding rules.actor
    actor-at =
        ap (λ (x : System). get_or x.actors i.0 zero_actor) laid ∙ get_or-pad zero_actor most_actors i.0 (map actor_as l)
        ∙ map_get actor_as i.0 l (rules.unstarted []) zero_actor inside

    pub table_at : get_or s.tables i.0 zero_table ≡ table_for here
    unfolding rules.actor
    table_at =
        ap (λ (x : System). get_or x.tables i.0 zero_table) laid ∙ get_or-pad zero_table most_actors i.0 (map table_for l)
        ∙ map_get table_for i.0 l (rules.unstarted []) zero_table inside

    pub actor-view : seated (get_or s.tables i.0 zero_table) (get_or s.actors i.0 zero_actor) ≡ here
    actor-view =
        (λ j. seated (table_at j) (actor-at j)) ∙ ap (λ (rs : List Rule). actor_view rs (actor_as here)) (rules-back here.rules)
        ∙ actor-back here (timers-of (length l) here seat-ok)

    pub table-is-ok : table_ok (get_or s.tables i.0 zero_table) ≡ true
    table-is-ok =
        let e = rules-of (length l) here seat-ok in
        ap table_ok table_at ∙ table-make (table_for here) (table_kept here.rules e) (rw (rules-back here.rules) e)

-- ---- the test as the code asks it
module _ (s : System) (y : SystemTyped s) where
  abbrev tests : List Bool
  tests = leb 1 s.count ∷ leb s.count most_actors ∷ net_formed s.network s.count
      ∷ all (actor_fine s.count) (take s.count s.actors) ∷ all table_ok (take s.count s.tables)
      ∷ all blank_actor (drop s.count s.actors) ∷ all blank_table (drop s.count s.tables) ∷ []

  to-tests : system_fine s ≡ true → every tests ≡ true
  unfolding system_fine net_formed
  to-tests e =
      let p = parts-of s (every-cons _ _ e).0 in let q = formed-of (sys_view s) (fine-formed s y e) in let n = seen s y p.few in
      let r = seats-fine (length (sys_view s).actors) (ts s y) (bs s y) (paired s y p.few) p.tables p.actors q.actors in
      let one : 1 ≤ s.count = let z = q.one in omega arith in
      every-make _ _ (le-leb 1 s.count one) (every-make _ _ (le-leb s.count most_actors p.few)
      (every-make _ _ (and-make _ _ p.net (subst (λ (k : ℕ). net_ok base.room k (net_view s.network) ≡ true) n q.net))
      (every-make _ _ (subst (λ (k : ℕ). all (actor_fine k) (take s.count s.actors) ≡ true) n r.1) (every-make _ _ r.0
      (every-make _ _ p.no-actors (every-make _ _ p.no-tables every-nil))))))

  from-tests : every tests ≡ true → system_fine s ≡ true
  unfolding system_fine net_formed
  from-tests e =
      let a = every-cons _ _ e in let b = every-cons _ _ a.1 in let c = every-cons _ _ b.1 in let d = every-cons _ _ c.1 in
      let t = every-cons _ _ d.1 in let u = every-cons _ _ t.1 in let v = every-cons _ _ u.1 in
      let few = leb-true s.count most_actors b.0 in let one = leb-true 1 s.count a.0 in
      let n = seen s y few in let w = and_both (laid_out s.network) _ c.0 in
      every-make _ _ (of_parts s (record {
        few = few;
        net = w.0;
        actors = all-make _ _ (λ x i. fine-laid-out s.count x (all_in _ _ d.0 x i));
        tables = all-make _ _ (λ x i. (table-parts x (all_in _ _ t.0 x i)).0);
        no-actors = u.0;
        no-tables = v.0;
      })) (every-make _ _ (of-formed (sys_view s) (record {
        one = omega arith;
        few = omega arith;
        net = subst (λ (k : ℕ). net_ok base.room k (net_view s.network) ≡ true) (sym n) w.1;
        actors =
            subst (λ (k : ℕ). all (actor_ok base.limits k) (sys_view s).actors ≡ true) (sym n) (seats-formed s.count (ts s y) (bs s y) t.0 d.0);
      })) every-nil)

  pub fine-tests : system_fine s ≡ every tests
  fine-tests = same_true (system_fine s) (every tests) to-tests from-tests
