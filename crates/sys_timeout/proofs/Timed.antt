-- The rules' Timeout in any system that holds the rows, way by way.
-- Assumes nothing.
use Prim.Native.Nat.{ℕ, suc}
use native.Mathlib.Omega.{arith}
use mathlib.Core.Path.{◌≡◌, refl, ap, ◌∙◌}
use mathlib.Core.Bool.{Bool, true, false, not, ◌&&◌, ◌||◌, false≢true}
use mathlib.Core.List.{List, [], ◌∷◌}
use lib.ListN.{get_or}
use lib.Dec.{leb, ltb, eqb}
use borrow.Author.Tests.{eqb-true, le-ltb}
use Rattle.lists.specs.Lists.{choose, any, place, cut}
use Rattle.types.specs.Capacities.{network, most_pending}
use Rattle.types.specs.declared.Id.{Id}
use Rattle.types.specs.declared.Kind.{Kind}
use Rattle.types.specs.declared.Rule.{Rule}
use Rattle.types.specs.declared.Pending.{Pending}
use Rattle.std.specs.Prelude.{Option}
use Rattle.types.specs.declared.Action.TheVariants.{Timeout}
use Rattle.types.specs.declared.InnerCommand.{InnerCommand}
use Rattle.rules.specs.Outcome.{Outcome, done, refused, bind, guard, ignored_if}
use Rattle.rules.specs.Inner.{reply, ignored, nobody}
use Rattle.rules.specs.Timers.{is_set, set_timer, cancel_timer}
use Rattle.rules.specs.Network.{Net}
use Rattle.rules.specs.Link.{Set, Output, Link, Did, output, timed_by, idling, timing, resent, resending, on_timeout}
use Rattle.rules.specs.System.{Sys, systems, with_timers, with_link, only_sets, run_commands, act}
use Rattle.link_timers.specs.Views.{bits, listed}
use Rattle.link_timers.proofs.Listed.{Ascends, listed-ascends}
use Rattle.net_rows.specs.Views.{net_of, room_of}
use Rattle.link_rows.specs.Rows.{durable_in}
use Rattle.sys_seat.specs.Seat.{Around, holding}
use Rattle.sys_seat.proofs.Seats.{run-set}
use Rattle.sys_seat.proofs.Actions.{bind-bind, bind-same, seat-timeout}
use Rattle.sys_reacts.specs.Views.{limits_of}
use Rattle.sys_rows.specs.Rows.{actor_of}
use Rattle.sys_moves.specs.Views.{Rows, caps_of, actor_at, sys_at, actor_with, running, reacting}
use Rattle.types.specs.declared.Envelope.{Envelope}

-- ---- Network, the last timer, cancelled and set again: the list is the same
again : (lo : ℕ) (ts : List ℕ) → Ascends lo bits ts → any (eqb network) ts ≡ true
    → place (eqb network) (λ u. u) (ltb network) network (cut (eqb network) (λ u. []) ts) ≡ ts
unfolding any place cut choose
again lo [] a e = absurd (false≢true e)
again lo (x ∷ ts) a e = go (eqb network x) refl e (again (suc x) ts a.2)
  where
    last : (l : List ℕ) → Ascends (suc x) bits l → network ≡ x → place (eqb network) (λ u. u) (ltb network) network l ≡ x ∷ l
    last [] b p = ap (λ (n : ℕ). n ∷ []) p
    last (y ∷ l) b p = absurd (omega arith)

    go : (b : Bool) → eqb network x ≡ b → (b || any (eqb network) ts) ≡ true
        → (any (eqb network) ts ≡ true → place (eqb network) (λ u. u) (ltb network) network (cut (eqb network) (λ u. []) ts) ≡ ts)
        → place (eqb network) (λ u. u) (ltb network) network (choose b ts (x ∷ cut (eqb network) (λ u. []) ts)) ≡ x ∷ ts
    go true p h f = last ts a.2 (eqb-true network x p)
    go false p h f = rw (p, le-ltb network x (let z = a.1 in omega arith)) (ap (λ (l : List ℕ). x ∷ l) (f h))

pub set-again : (w : ℕ) → is_set network (listed w) ≡ true → set_timer network (cancel_timer network (listed w)) ≡ listed w
unfolding is_set set_timer cancel_timer choose
set-again w e = again 0 (listed w) (listed-ascends w) e

-- With something pending, Network is not all that is set.
more-than : (ps : List Pending) (q : Pending) (qs : List Pending) → ps ≡ q ∷ qs → only_sets network (Set network ∷ resent ps) ≡ false
unfolding only_sets resent
more-than ps q qs e = rw e

module _ (me : Id) (kind : Kind) (x : Rows) (used : ℕ) (rs : List Rule) (hall : Around me) (last : Option Envelope) where
  abbrev w : List ℕ
  w = x.live

  abbrev net : Net
  net = net_of kind last x.cells used

  abbrev link : Link
  link = record { durable = durable_in w x.pend; state = get_or w 7 0 }

  abbrev outcome : ℕ → Outcome Sys
  outcome t = systems (act (caps_of x.cells) (sys_at me hall kind last used rs x) (Timeout me t))

  -- What comes after the handler.
  abbrev after : ℕ → Did → Outcome Sys
  after t d = ignored_if (not d.touched && only_sets t d.commands) (run_commands (room_of x.cells) me d.commands
      (holding me hall net (with_link d.link (with_timers (cancel_timer t (listed (get_or w 6 0))) (actor_at rs x)))))

  -- ---- 2 and 5
  pub far-is : (t : ℕ) → leb t network ≡ false → outcome t ≡ refused 2
  unfolding guard
  far-is t e = seat-timeout (caps_of x.cells) me hall net (actor_at rs x) t ∙ rw e

  module _ (t : ℕ) (near : leb t network ≡ true) where
    pub unset-is : is_set t (listed (get_or w 6 0)) ≡ false → outcome t ≡ refused 5
    unfolding guard actor_of
    unset-is e = seat-timeout (caps_of x.cells) me hall net (actor_at rs x) t ∙ rw (near, e)

    handled : is_set t (listed (get_or w 6 0)) ≡ true → outcome t ≡ bind (on_timeout (limits_of most_pending) me rs link t) (after t)
    unfolding guard actor_of
    handled e = seat-timeout (caps_of x.cells) me hall net (actor_at rs x) t ∙ rw (near, e)

    -- ---- a user's timer: t' are the timers without it
    module _ (is_set : is_set t (listed (get_or w 6 0)) ≡ true) (users : eqb t network ≡ false)
        (t' : ℕ) (cancelled : listed t' ≡ cancel_timer t (listed (get_or w 6 0))) where
      timed-by : (o : Output) → bind (timed_by link o) (after t) ≡ running me hall o.commands net rs t' o.durable (get_or w 7 0) x
      unfolding bind guard timed_by with_timers with_link actor_of
      timed-by o = rw cancelled

      -- A rule decides: its commands, and the state stays.
      pub timed-is : (os : List InnerCommand) → ignored (reply rs 3 (get_or w 7 0) nobody t) ≡ false → (reply rs 3 (get_or w 7 0) nobody t).out ≡ os
          → outcome t ≡ reacting me kind os t' (get_or w 7 0) used x hall last rs
      unfolding on_timeout timing choose
      timed-is os i e =
          handled is_set ∙ rw (users, i, e) (bind-bind (output (limits_of most_pending) me (durable_in w x.pend) os) (timed_by link) (after t))
          ∙ bind-same (output (limits_of most_pending) me (durable_in w x.pend) os) _ _ timed-by

      -- None does, or it ignores: the timer goes, and nothing more.
      pub idle-is : ignored (reply rs 3 (get_or w 7 0) nobody t) ≡ true
          → outcome t ≡ done (holding me hall net (actor_with rs t' (durable_in w x.pend) (get_or w 7 0) x))
      unfolding on_timeout timing choose idling bind guard only_sets run_commands with_timers with_link actor_of
      idle-is i = handled is_set ∙ rw (users, i, cancelled)

  -- ---- the Network timer: with nothing pending it is ignored, else every pending message is sent again, and it is set as before
  module _ (is_set : is_set network (listed (get_or w 6 0)) ≡ true) where
    pub quiet_is : (durable_in w x.pend).pending ≡ [] → outcome network ≡ refused 1
    unfolding on_timeout choose resending bind guard only_sets resent
    quiet_is f = handled network refl is_set ∙ rw f

    pub resends-are : (q : Pending) (qs : List Pending) → (durable_in w x.pend).pending ≡ q ∷ qs
        → outcome network ≡ run_commands (room_of x.cells) me (resent (durable_in w x.pend).pending) (sys_at me hall kind last used rs x)
    unfolding on_timeout choose resending bind guard with_timers with_link actor_of
    resends-are q qs f =
        let ds = resent (durable_in w x.pend).pending in
        handled network refl is_set
        ∙ ap (λ (b : Bool). guard (not b) 1 (run_commands (room_of x.cells) me (Set network ∷ ds)
        (holding me hall net (with_link link (with_timers (cancel_timer network (listed (get_or w 6 0))) (actor_at rs x))))))
        (more-than (durable_in w x.pend).pending q qs f)
        ∙ run-set me hall net _ (room_of x.cells) ds network
        ∙ ap (λ (ts : List ℕ). run_commands (room_of x.cells) me ds (holding me hall net (with_timers ts (actor_at rs x)))) (set-again (get_or w 6 0) is_set)
