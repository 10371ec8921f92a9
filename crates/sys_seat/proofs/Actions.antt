-- The rules' actions in any system that holds the network and the actor: what the seat makes of them.
-- Assumes nothing.
use Prim.Native.Nat.{ℕ}
use mathlib.Core.Path.{◌≡◌, refl, ap, ◌∙◌}
use mathlib.Core.Bool.{Bool, true, false, not, ◌&&◌}
use lib.ListN.{length, length-set}
use lib.Dec.{leb, ltb}
use borrow.Author.Tests.{lt-ltb}
use Rattle.types.specs.declared.Id.{Id}
use Rattle.types.specs.declared.Envelope.{Envelope}
use Rattle.types.specs.declared.Action.TheVariants.{Deliver, Drop, Timeout, Crash, Recover}
use Rattle.types.specs.Capacities.{network}
use Rattle.rules.specs.Outcome.{Outcome, done, refused, bind, guard, ignored_if, Room, Caps}
use Rattle.rules.specs.Timers.{no_timers, is_set, cancel_timer}
use Rattle.rules.specs.Network.{Net, on_deliver, on_drop}
use Rattle.rules.specs.Link.{Did, on_start, on_msg, on_timeout}
use Rattle.rules.specs.System.{Actor, Sys, Next, Plan, systems, actor, known, with_timers, with_link, with_mark, with_actor, with_net, run_commands}
use Rattle.rules.specs.System.{ended, planned, performed, perform, wake, only_sets, timed, deliver, dropped, timeout, crash, recover, act}
use Rattle.sys_seat.specs.Seat.{Around, holding}
use Rattle.sys_seat.proofs.Seats.{held, seat-actor, seat-change}

-- ---- outcomes
pub systems-guard : (b : Bool) (n : ℕ) (m : Outcome Next) → systems (guard b n m) ≡ guard b n (systems m)
unfolding systems guard
systems-guard true n m = refl
systems-guard false n m = refl

pub bind-guard : {A B : Type 0} (b : Bool) (n : ℕ) (m : Outcome A) (k : A → Outcome B) → bind (guard b n m) k ≡ guard b n (bind m k)
unfolding bind guard
bind-guard true n m k = refl
bind-guard false n m k = refl

pub bind-bind : {A B C : Type 0} (m : Outcome A) (k : A → Outcome B) (f : B → Outcome C) → bind (bind m k) f ≡ bind m (λ a. bind (k a) f)
unfolding bind
bind-bind (done a) k f = refl
bind-bind (refused n) k f = refl

pub systems-bind : {A : Type 0} (m : Outcome A) (k : A → Outcome Next) → systems (bind m k) ≡ bind m (λ a. systems (k a))
unfolding systems bind
systems-bind (done a) k = refl
systems-bind (refused n) k = refl

pub bind-same : {A B : Type 0} (m : Outcome A) (k l : A → Outcome B) → ((a : A) → k a ≡ l a) → bind m k ≡ bind m l
unfolding bind
bind-same (done a) k l h = h a
bind-same (refused n) k l h = refl

opened : {A : Type 0} (n : ℕ) (m : Outcome A) → guard true n m ≡ m
unfolding guard
opened n m = refl

-- A plan that is performed leaves what its commands leave.
performs : (c : Room) (p : Plan) → systems (perform c p) ≡ run_commands c p.who p.commands p.sys
unfolding perform performed systems bind
performs c p = go (run_commands c p.who p.commands p.sys)
  where
    go : (m : Outcome Sys) → systems (bind m (performed p)) ≡ m
    go (done s) = refl
    go (refused n) = refl

module _ (c : Caps) (i : Id) (h : Around i) (n : Net) (a : Actor) where
  abbrev here : Sys
  here = holding i h n a

  abbrev count : ℕ
  count = length h.sys.actors

  pub known-held : (j : Id) → known here j ≡ ltb j.0 count
  unfolding known
  known-held j = ap (λ (k : ℕ). ltb j.0 k) (length-set h.sys.actors i.0 a)

  knows : known here i ≡ true
  knows = known-held i ∙ lt-ltb i.0 count h.there

  -- A handler's commands, with its link in the seat.
  pub finishes : (d : Did) → systems (bind (planned i here d) (perform c.room))
      ≡ run_commands c.room i d.commands (holding i h n (with_link d.link a))
  unfolding planned bind
  finishes d = performs c.room _ ∙ ap (run_commands c.room i d.commands) (seat-change i h n a (λ b. with_link d.link b))

  pub seat-wake : systems (bind (wake c.limits i here) (perform c.room))
      ≡ bind (on_start c.limits i a.rules a.storage) (λ d. run_commands c.room i d.commands (holding i h n (with_link d.link a)))
  unfolding wake
  seat-wake =
      ap systems (bind-bind _ _ _) ∙ systems-bind _ _
      ∙ ap (λ (b : Actor). bind (on_start c.limits i b.rules b.storage) (λ d. systems (bind (planned i here d) (perform c.room)))) (held i h n a)
      ∙ bind-same _ _ _ finishes

  pub seat-crash : systems (act c here (Crash i)) ≡ done (holding i h n (with_mark true no_timers a))
  unfolding act crash ended systems guard
  seat-crash = ap (λ (b : Bool). systems (guard b 2 (ended (with_actor i (with_mark true no_timers (actor here i)) here)))) knows
      ∙ ap done (seat-change i h n a (λ b. with_mark true no_timers b))

  pub seat-drop : (e : Envelope) → systems (act c here (Drop e)) ≡ guard (ltb e.src.0 count) 2 (bind (on_drop e n) (λ m. done (holding i h m a)))
  unfolding act dropped ended systems with_net
  seat-drop e =
      systems-guard _ _ _
      ∙ ap (λ (b : Bool). guard b 2 (systems (bind (on_drop e n) (λ m. ended (with_net m here))))) (known-held e.src)
      ∙ ap (guard (ltb e.src.0 count) 2) (systems-bind _ _)

module _ (c : Caps) (i : Id) (h : Around i) (n : Net) (a : Actor) where
  -- The mark goes, then a start on the storage.
  pub seat-recover : systems (act c (holding i h n a) (Recover i))
      ≡ guard a.crashed 4 (systems (bind (wake c.limits i (holding i h n (with_mark false a.timers a))) (perform c.room)))
  unfolding act recover
  seat-recover =
      ap systems (bind-guard _ _ _ _ ∙ ap (guard (known (holding i h n a) i) 2) (bind-guard _ _ _ _)) ∙ systems-guard _ _ _
      ∙ ap (guard _ 2) (systems-guard _ _ _)
      ∙ ap (λ (b : Bool). guard b 2 (guard (actor (holding i h n a) i).crashed 4
      (rest (with_actor i (with_mark false (actor (holding i h n a) i).timers (actor (holding i h n a) i)) (holding i h n a))))) (knows c i h n a)
      ∙ go
    where
      rest : Sys → Outcome Sys
      rest s = systems (bind (wake c.limits i s) (perform c.room))

      go : guard true 2 (guard (actor (holding i h n a) i).crashed 4
          (rest (with_actor i (with_mark false (actor (holding i h n a) i).timers (actor (holding i h n a) i)) (holding i h n a))))
          ≡ guard a.crashed 4 (rest (holding i h n (with_mark false a.timers a)))
      go =
          opened 2 _ ∙ ap (λ (b : Actor). guard b.crashed 4 (rest (with_actor i (with_mark false b.timers b) (holding i h n a)))) (held i h n a)
          ∙ ap (λ (s : Sys). guard a.crashed 4 (rest s)) (seat-actor i h n a _)

  pub seat-timeout : (t : ℕ) → systems (act c (holding i h n a) (Timeout i t))
      ≡ guard (leb t network) 2 (guard (is_set t a.timers) 5 (bind (on_timeout c.limits i a.rules a.link t) (λ d.
      ignored_if (not d.touched && only_sets t d.commands)
      (run_commands c.room i d.commands (holding i h n (with_link d.link (with_timers (cancel_timer t a.timers) a)))))))
  unfolding act timeout timed
  seat-timeout t =
      ap systems (bind-guard _ _ _ _ ∙ ap (guard (known (holding i h n a) i && leb t network) 2) (bind-guard _ _ _ _)) ∙ systems-guard _ _ _
      ∙ ap (guard _ 2) (systems-guard _ _ _)
      ∙ ap (λ (b : Bool). guard (b && leb t network) 2 (guard (is_set t (actor (holding i h n a) i).timers) 5 (systems (bind (bind
      (on_timeout c.limits i (actor (holding i h n a) i).rules (actor (holding i h n a) i).link t) (timed i t (holding i h n a))) (perform c.room)))))
      (knows c i h n a)
      ∙ ap (λ (b : Actor). guard (leb t network) 2 (guard (is_set t b.timers) 5 (systems (bind (bind
      (on_timeout c.limits i b.rules b.link t) (timed i t (holding i h n a))) (perform c.room))))) (held i h n a)
      ∙ ap (λ (m : Outcome Sys). guard (leb t network) 2 (guard (is_set t a.timers) 5 m))
      (ap systems (bind-bind _ _ _) ∙ systems-bind _ _ ∙ bind-same _ _ _ (λ d. went d))
    where
      went : (d : Did) → systems (bind (timed i t (holding i h n a) d) (perform c.room))
          ≡ ignored_if (not d.touched && only_sets t d.commands)
          (run_commands c.room i d.commands (holding i h n (with_link d.link (with_timers (cancel_timer t a.timers) a))))
      went d =
          ap systems (bind-guard _ _ _ _) ∙ systems-guard _ _ _
          ∙ ap (λ (s : Sys). ignored_if (not d.touched && only_sets t d.commands) (systems (bind (planned i s d) (perform c.room))))
          (seat-change i h n a (λ b. with_timers (cancel_timer t b.timers) b))
          ∙ ap (λ (m : Outcome Sys). ignored_if (not d.touched && only_sets t d.commands) m)
          (finishes c i h n (with_timers (cancel_timer t a.timers) a) d)

-- A message to the seat.
module _ (c : Caps) (e : Envelope) (h : Around e.dst) (n : Net) (a : Actor) where
  abbrev i : Id
  i = e.dst

  abbrev s : Bool
  s = ltb e.src.0 (length h.sys.actors)

  abbrev rest : Actor → Outcome Sys
  rest b = systems
      (bind (bind (on_deliver e n) (λ m. bind (on_msg c.limits i b.rules b.link e.src e.msg) (planned i (holding i h m a)))) (perform c.room))

  pub seat-deliver : systems (act c (holding i h n a) (Deliver e))
      ≡ guard s 2 (guard (not a.crashed) 1 (bind (on_deliver e n) (λ m.
      bind (on_msg c.limits i a.rules a.link e.src e.msg) (λ d.
      run_commands c.room i d.commands (holding i h m (with_link d.link a))))))
  unfolding act deliver with_net
  seat-deliver =
      ap systems (bind-guard _ _ _ _ ∙ ap (guard _ 2) (bind-guard _ _ _ _)) ∙ systems-guard _ _ _ ∙ ap (guard _ 2) (systems-guard _ _ _)
      ∙ ap (λ (b : Bool). guard b 2 (guard (known (holding i h n a) i && not (actor (holding i h n a) i).crashed) 1 (rest (actor (holding i h n a) i))))
      (known-held c i h n a e.src)
      ∙ ap (λ (b : Bool). guard s 2 (guard (b && not (actor (holding i h n a) i).crashed) 1 (rest (actor (holding i h n a) i)))) (knows c i h n a)
      ∙ ap (λ (b : Actor). guard s 2 (guard (not b.crashed) 1 (rest b))) (held i h n a)
      ∙ ap (λ (m : Outcome Sys). guard s 2 (guard (not a.crashed) 1 m))
      (ap systems (bind-bind _ _ _) ∙ systems-bind _ _
      ∙ bind-same _ _ _ (λ m. ap systems (bind-bind _ _ _) ∙ systems-bind _ _ ∙ bind-same _ _ _ (λ d. finishes c i h m a d)))

-- ---- an actor that is not there
module _ (c : Caps) (i j : Id) (h : Around i) (n : Net) (a : Actor) (gone : ltb j.0 (length h.sys.actors) ≡ false) where
  unknown : known (holding i h n a) j ≡ false
  unknown = known-held c i h n a j ∙ gone

  pub absent-timeout : (t : ℕ) → systems (act c (holding i h n a) (Timeout j t)) ≡ refused 2
  unfolding act timeout guard bind systems
  absent-timeout t = rw unknown

  pub absent-crash : systems (act c (holding i h n a) (Crash j)) ≡ refused 2
  unfolding act crash guard systems
  absent-crash = rw unknown

  pub absent-recover : systems (act c (holding i h n a) (Recover j)) ≡ refused 2
  unfolding act recover guard bind systems
  absent-recover = rw unknown

pub absent-deliver : (c : Caps) (e : Envelope) (i : Id) (h : Around i) (n : Net) (a : Actor) → ltb e.dst.0 (length h.sys.actors) ≡ false
    → systems (act c (holding i h n a) (Deliver e)) ≡ guard (ltb e.src.0 (length h.sys.actors)) 2 (refused 1)
unfolding act deliver guard bind systems
absent-deliver c e i h n a gone = rw (known-held c i h n a e.src, unknown c i e.dst h n a gone) (go (ltb e.src.0 (length h.sys.actors)))
  where
    go : (b : Bool) → systems (bind (guard b 2 (refused 1)) (perform c.room)) ≡ guard b 2 (refused 1)
    go true = refl
    go false = refl
