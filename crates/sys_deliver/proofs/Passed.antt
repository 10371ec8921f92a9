-- A message that is only acked: an Ack goes out, and the actor is as it was.
-- Assumes nothing.
use Prim.Native.Nat.{ℕ}
use mathlib.Core.Path.{◌≡◌, refl, sym, ap, ◌∙◌}
use mathlib.Core.List.{List, [], ◌∷◌}
use lib.ListN.{get_or}
use Rattle.types.specs.declared.Id.{Id}
use Rattle.types.specs.declared.Number.{Number}
use Rattle.types.specs.declared.Kind.{Kind}
use Rattle.types.specs.declared.Rule.{Rule}
use Rattle.types.specs.declared.Envelope.{Envelope}
use Rattle.types.specs.declared.Message.{Message}
use Rattle.types.specs.declared.Message.TheVariants.{Ack}
use Rattle.std.specs.Prelude.{Option}
use Rattle.rules.specs.Outcome.{Outcome, done, refused, bind, Room}
use Rattle.rules.specs.Network.{Net, send, on_deliver}
use Rattle.rules.specs.Link.{Send}
use Rattle.rules.specs.System.{Actor, Sys, actor, with_timers, with_net, run_commands}
use Rattle.link_timers.specs.Views.{listed}
use Rattle.net_rows.specs.Views.{last_after, net_of, room_of}
use Rattle.sys_seat.specs.Seat.{Around, holding}
use Rattle.sys_seat.proofs.Seats.{held}
use Rattle.sys_emits.specs.declared.Emitted.{Emitted}
use Rattle.sys_reacts.specs.declared.First.TheVariants as first
use Rattle.sys_reacts.specs.Views.{Safe}
use Rattle.sys_rows.specs.Rows.{actor_of}
use Rattle.sys_moves.specs.Views.{Rows, actor_at, passed_by, Fine, Acted}

-- A send leaves the actor in its seat.
module _ (c : Room) (i : Id) (hall : Around i) (a : Actor) where
  seated : Outcome Sys → Actor
  seated (done s) = actor s i
  seated (refused n) = a

  sends-on : (o : Outcome Net) → seated (bind o (λ n. done (holding i hall n a))) ≡ a
  unfolding bind seated
  sends-on (done n) = held i hall n a
  sends-on (refused k) = refl

  pub same-actor : (r : Id) (m : Message) (o : Outcome Net) (n : Net) (b : Actor)
      → bind o (λ x. run_commands c i (Send r m ∷ []) (holding i hall x a)) ≡ done (holding i hall n b) → b ≡ a
  unfolding run_commands with_net bind seated
  same-actor r m (done x) n b e = sym (held i hall n b) ∙ sym (ap seated e) ∙ sends-on (send c (record { src = i; dst = r; msg = m }) x)
  same-actor r m (refused k) n b e = sym (held i hall n b) ∙ sym (ap seated e)

module _ (kind : Kind) (e : Envelope) (v : Number) (used n : ℕ) (x : Rows) (fine : Fine kind used n x) (r : Emitted) (cs' : List (List ℕ))
    (got : Safe kind e.dst (first.Message e v) (Send e.src (Ack v) ∷ []) x.cells used n (get_or x.live 6 0) r cs') where
  abbrev y : Rows
  y = record { cells = cs'; live = x.live; pend = x.pend; kept = x.kept; stored = x.stored }

  same-timers : (rs : List Rule) → with_timers (listed (get_or x.live 6 0)) (actor_at rs x) ≡ actor_at rs x
  unfolding with_timers actor_of
  same-timers rs = refl

  -- The outcome with the actor of the rows.
  as-taking : (hall : Around e.dst) (last : Option Envelope) (rs : List Rule) (a : Actor) → a ≡ actor_at rs x
      → bind (on_deliver e (net_of kind last x.cells used))
      (λ m. run_commands (room_of x.cells) e.dst (Send e.src (Ack v) ∷ []) (holding e.dst hall m a))
      ≡ passed_by kind e v used x hall last rs
  as-taking hall last rs a q =
      ap (λ (b : Actor). bind (on_deliver e (net_of kind last x.cells used))
      (λ m. run_commands (room_of x.cells) e.dst (Send e.src (Ack v) ∷ []) (holding e.dst hall m b))) q

  pub passed-acted : Acted e.dst (passed_by kind e v used x) (last_after kind e) kind used n x (record { answer = r.answer; used = r.used; len = r.len }) y
  passed-acted = record {
    fine = record { net = got.ready; room = got.room ∙ fine.room; live = fine.live; kept = fine.kept };
    runs = λ t hall last rs.
        let a = actor_at rs x in
        let z = sym (as-taking hall last rs (with_timers (listed (get_or x.live 6 0)) a) (same-timers rs)) ∙ got.runs t hall last a in
        let b = same-actor (room_of x.cells) e.dst hall a e.src (Ack v) (on_deliver e (net_of kind last x.cells used)) _ _ z in
        z ∙ ap (λ (w : Actor). done (holding e.dst hall (net_of kind (last_after kind e last) cs' r.used) w)) b;
    stops = λ f hall last rs.
        sym (as-taking hall last rs (with_timers (listed (get_or x.live 6 0)) (actor_at rs x)) (same-timers rs)) ∙ got.stops f hall last (actor_at rs x);
    same = λ f. let z = got.kept f in (λ j. record { cells = z.0 j; live = x.live; pend = x.pend; kept = x.kept; stored = x.stored }, z.1, z.2);
  }
