-- Network and actor laid out as rows are what the action asks, and what it leaves of them is laid back.
-- Assumes nothing.
use Prim.Native.Nat.{ℕ, ◌≤◌}
use native.Mathlib.Omega.{arith}
use mathlib.Core.Path.{◌≡◌, sym, ap, subst, ◌∙◌}
use mathlib.Core.List.{List, []}
use lib.ListN.{length, take, length-map}
use lib.Seq.{length-take-le}
use Rattle.types.specs.Capacities.{most_entries}
use Rattle.types.specs.declared.Id.{Id}
use Rattle.types.specs.declared.Envelope.{Envelope}
use Rattle.types.specs.declared.Kind.{Kind}
use Rattle.types.specs.declared.Rule.{Rule}
use Rattle.types.specs.declared.Action.{Action}
use Rattle.types.specs.declared.Action.TheVariants.{Deliver}
use Rattle.std.specs.Prelude.{Option}
use Rattle.answers.specs.Answers.{Answer}
use Rattle.answers.specs.Answers.{answer_number, is_done}
use Rattle.rules.specs.Outcome.{done, refused, base}
use Rattle.rules.specs.Network.{Net, len}
use Rattle.rules.specs.System.{systems, act}
use Rattle.net_cells.specs.Cells.{entry_of}
use Rattle.net_layout.specs.Layout.{LaidOut}
use Rattle.net_rows.specs.declared.Sent.{Sent}
use Rattle.net_rows.specs.Views.{last_after, net_of}
use Rattle.net_rows.specs.Views as rows
use Rattle.net_network.specs.declared.Network.{Network}
use Rattle.net_network.specs.Views.{entry_list, net_view, network_of, NetLaid, NetReady}
use Rattle.net_network.specs.Parts.{read_back}
use Rattle.net_network.proofs.Changes.{cells-room, cells-net, cells_limits, cells-ready, read_is}
use Rattle.net_network.proofs.Ready.{viewed, laid_of}
use Rattle.link_inner.specs.declared.Table.{Table}
use Rattle.link_inner.specs.Views.{rules_of}
use Rattle.sys_actor.specs.declared.Actor.{Actor}
use Rattle.sys_actor.specs.Views.{actor_view, actor_as, ActorLaid}
use Rattle.sys_seat.specs.Seat.{Around, holding}
use Rattle.sys_rows.specs.declared.ActorRows.{ActorRows}
use Rattle.sys_layout.specs.Views as actor
use Rattle.sys_layout.proofs.Back.{no-rules, read-actor, read-laid}
use Rattle.sys_moves.specs.Views.{Rows, rows_in, actor_at, sys_at, caps_of, Fine, Stepped, last_then}
use Rattle.sys_act.specs.Seats.{seat_of}
use Rattle.sys_system.specs.Views.{seated}
use Rattle.sys_step.specs.declared.Touched.{Touched}
use Rattle.sys_step.specs.Views.{acting, Touches}

-- ---- the last message
pub delivered-last : (k : Kind) (l : Option Envelope) {a : Action} {e : Envelope} {r : Option Envelope} → a ≡ Deliver e → r ≡ last_after k e l
    → r ≡ last_then k a l
unfolding last_then
delivered-last k l {a} {e} {r} d f = f ∙ rw d

-- ---- the cells, laid back
module _ {kind : Kind} {used n : ℕ} {x : Rows} (fine : Fine kind used n x) (last : Option Envelope) where
  abbrev sent : Net
  sent = net_of kind last x.cells used

  few : length sent.entries ≤ most_entries
  few =
      let f = fine.net.laid.fit in
      let r = fine.room in
      let v : length (rows.entry_list x.cells used) ≡ used = length-map (take used x.cells) entry_of ∙ length-take-le used x.cells f in
      omega arith

  pub read-net : net_view (network_of sent) ≡ sent
  read-net = viewed sent few

  pub net-laid : NetLaid (network_of sent)
  net-laid = laid_of sent few

-- ---- the action on the rows
module _ (count : ℕ) (n : Network) (b : Actor) (t : Table) (ready : NetReady n) (cs : List (List ℕ)) (out : LaidOut (entry_list n) cs)
    (own : ActorRows) (laid : actor.LaidOut b own) (size : ℕ)
    (sum : size ≡ len (entry_list n)) where
  abbrev x : Rows
  x = rows_in cs own

  pub fine-rows : Fine n.kind n.used size x
  fine-rows = record { net = cells-ready n ready cs out size sum; room = cells-room n ready cs out; live = laid.live; kept = laid.kept }

  module _ (a : Action) (rs : List Rule) (same : rs ≡ rules_of t) (r : Sent) (y : Rows)
      (step : Stepped count a (seat_of count a) rs n.kind n.used size x r y) where
    abbrev me : Id
    me = seat_of count a

    abbrev last : Option Envelope
    last = last_then n.kind a n.last

    caps : caps_of cs ≡ base
    caps = let e = cells_limits n ready cs out in λ i. record { room = e i; limits = base.limits }

    came : (hall : Around me) → sys_at me hall n.kind n.last n.used rs x ≡ holding me hall (net_view n) (seated t b)
    came hall =
        let e = cells-net n ready cs out in
        let f = laid.actor rs ∙ ap (λ (l : List Rule). actor_view l b) same in
        λ i. holding me hall (e i) (f i)

    acts : (hall : Around me) → acting count a hall n b t ≡ systems (act (caps_of cs) (sys_at me hall n.kind n.last n.used rs x) a)
    acts hall = sym (λ i. systems (act (caps i) (came hall i) a))

    module _ (z : Touched) (answer : z.answer ≡ r.answer) (net : z.network ≡ read_back n.kind y.cells r.used last)
        (laid_back : z.actor ≡ actor_as (actor_at [] y)) where
      network-is : z.network ≡ network_of (net_of n.kind last y.cells r.used)
      network-is = net ∙ read_is step.fine.net step.fine.room last

      actor-is : z.actor ≡ actor_as (actor_at rs y)
      actor-is = laid_back ∙ no-rules rs y.live y.pend y.kept y.stored

      left : (hall : Around me)
          → sys_at me hall n.kind last r.used rs y ≡ holding me hall (net_view z.network) (seated t z.actor)
      left hall =
          let e = sym (ap net_view network-is ∙ read-net step.fine last) in
          let f = sym (ap (seated t) actor-is ∙ ap (λ (l : List Rule). actor_view l (actor_as (actor_at rs y))) (sym same)
          ∙ read-actor rs y.live y.pend y.kept y.stored) in
          λ i. holding me hall (e i) (f i)

      pub touches : Touches count a n b t z
      touches = record {
        network = subst NetLaid (sym network-is) (net-laid step.fine last);
        actor = subst ActorLaid (sym actor-is) (read-laid rs y.live y.pend y.kept y.stored);
        runs = λ h hall many. acts hall ∙ step.runs (sym (ap is_done answer) ∙ h) hall many n.last ∙ ap done (left hall);
        stops = λ h hall many. acts hall ∙ step.stops (sym (ap is_done answer) ∙ h) hall many n.last
            ∙ ap (λ (v : Answer). refused (answer_number v)) (sym answer);
      }
