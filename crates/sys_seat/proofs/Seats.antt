-- The commands of an actor, one by one, in any system that holds it: each changes the actor in its seat, or the network.
-- Assumes nothing.
use Prim.Native.Nat.{ℕ, zero, suc}
use mathlib.Core.Path.{◌≡◌, refl, ap, ◌∙◌}
use mathlib.Core.List.{List, [], ◌∷◌, ◌++◌}
use native.Mathlib.Omega.{arith}
use lib.ListN.{set, replicate, length-replicate}
use Rattle.types.specs.declared.Kind.TheVariants.{Ordered}
use Rattle.std.specs.Prelude.{None}
use Rattle.types.specs.declared.Id.{Id}
use Rattle.rules.specs.Outcome.{Outcome, done, refused, bind, Room}
use Rattle.rules.specs.Timers.{set_timer, cancel_timer}
use Rattle.rules.specs.Network.{Net, send}
use Rattle.rules.specs.Link.{Durable, Command, Set, Cancel, Send, Save}
use Rattle.rules.specs.System.{Actor, Sys, unstarted, actor, with_timers, with_storage, with_actor, with_net, run_commands}
use Rattle.rules.proofs.Laws.{at_same}
use Rattle.sys_seat.specs.Seat.{Around, holding}

pub set_twice : {A : Type 0} (l : List A) (i : ℕ) (a b : A) → set (set l i a) i b ≡ set l i b
set_twice [] i a b = refl
set_twice (x ∷ l) zero a b = refl
set_twice {A = A} (x ∷ l) (suc i) a b = ap (λ (m : List A). x ∷ m) (set_twice l i a b)

-- There is a system with a seat for anybody.
pub some-hall : (i : Id) → Around i
some-hall i = record {
  sys = record { net = record { kind = Ordered; entries = []; last = None }; actors = replicate (suc i.0) (unstarted []) };
  there = let z = length-replicate (suc i.0) (unstarted []) in omega arith;
}

module _ (i : Id) (h : Around i) (n : Net) (a : Actor) where
  -- The actor in the seat; another in its place.
  pub held : actor (holding i h n a) i ≡ a
  unfolding actor with_actor
  held = at_same h.sys i a h.there

  pub seat-actor : (b : Actor) → with_actor i b (holding i h n a) ≡ holding i h n b
  unfolding with_actor
  seat-actor b = λ j. record { net = n; actors = set_twice h.sys.actors i.0 a b j }

  -- The actor in the seat, changed by f.
  pub seat-change : (f : Actor → Actor) → with_actor i (f (actor (holding i h n a) i)) (holding i h n a) ≡ holding i h n (f a)
  seat-change f = ap (λ (b : Actor). with_actor i (f b) (holding i h n a)) held ∙ seat-actor (f a)

  -- ---- the commands
  module _ (c : Room) (cs : List Command) where
    pub run-set : (t : ℕ) → run_commands c i (Set t ∷ cs) (holding i h n a) ≡ run_commands c i cs (holding i h n (with_timers (set_timer t a.timers) a))
    unfolding run_commands
    run-set t = ap (run_commands c i cs) (seat-change (λ b. with_timers (set_timer t b.timers) b))

    pub run-cancel : (t : ℕ)
        → run_commands c i (Cancel t ∷ cs) (holding i h n a) ≡ run_commands c i cs (holding i h n (with_timers (cancel_timer t a.timers) a))
    unfolding run_commands
    run-cancel t = ap (run_commands c i cs) (seat-change (λ b. with_timers (cancel_timer t b.timers) b))

    pub run-save : (d : Durable) → run_commands c i (Save d ∷ cs) (holding i h n a) ≡ run_commands c i cs (holding i h n (with_storage d a))
    unfolding run_commands
    run-save d = ap (run_commands c i cs) (seat-change (λ b. with_storage d b))

-- ---- a list run in two goes
pub run-append : (c : Room) (i : Id) (cs ds : List Command) (s : Sys) → run_commands c i (cs ++ ds) s ≡ bind (run_commands c i cs s) (run_commands c i ds)
unfolding run_commands bind
run-append c i [] ds s = refl
run-append c i (Set t ∷ cs) ds s = run-append c i cs ds _
run-append c i (Cancel t ∷ cs) ds s = run-append c i cs ds _
run-append c i (Save d ∷ cs) ds s = run-append c i cs ds _
run-append c i (Send r m ∷ cs) ds s = go (send c (record { src = i; dst = r; msg = m }) s.net) (λ n. run-append c i cs ds (with_net n s))
  where
    go : (o : Outcome Net) → ((n : Net) → run_commands c i (cs ++ ds) (with_net n s) ≡ bind (run_commands c i cs (with_net n s)) (run_commands c i ds))
        → bind o (λ n. run_commands c i (cs ++ ds) (with_net n s)) ≡ bind (bind o (λ n. run_commands c i cs (with_net n s))) (run_commands c i ds)
    go (done n) f = f n
    go (refused k) f = refl
