-- A message that is acked, or acks.
-- Assumes nothing.
use Prim.Native.Nat.{ℕ, ◌+◌, ◌≤◌}
use native.Mathlib.Omega.{arith}
use mathlib.Core.Path.{◌≡◌, sym, ap, ◌∙◌, subst}
use mathlib.Core.Bool.{Bool, true, false}
use mathlib.Core.List.{List, [], ◌∷◌, ◌++◌}
use lib.ListN.{take, get_or}
use Rattle.types.specs.Capacities.{most_told}
use Rattle.types.specs.declared.Id.{Id}
use Rattle.types.specs.declared.Number.{Number}
use Rattle.types.specs.declared.Kind.{Kind}
use Rattle.types.specs.declared.Rule.{Rule}
use Rattle.types.specs.declared.Envelope.{Envelope}
use Rattle.std.specs.Prelude.{Option, None}
use Rattle.types.specs.declared.Message.TheVariants.{Ack}
use Rattle.answers.specs.Answers.{Answer}
use Rattle.answers.specs.Answers.{answer_of, answer_number, is_done}
use Rattle.rules.specs.Outcome.{Outcome, done, refused, bind, guard}
use Rattle.rules.specs.Network.{Net, delivering, on_deliver}
use Rattle.rules.specs.Link.{Durable, Send, Save, acked}
use Rattle.rules.specs.System.{Actor, Sys, with_storage, run_commands}
use Rattle.net_rows.specs.declared.Sent.{Sent}
use Rattle.net_rows.specs.Views.{last_after, net_of, room_of, NetReady, Changed}
use Rattle.net_rows.proofs.Ready.{deliver-ready}
use Rattle.link_direct.specs.Direct.{asked, sends}
use Rattle.link_tables.specs.Rows.{orders}
use Rattle.link_rows.specs.Rows.{durable_in}
use Rattle.sys_seat.specs.Seat.{Around, holding}
use Rattle.sys_seat.proofs.Seats.{run-save}
use Rattle.sys_emits.proofs.Laws.{not-both}
use Rattle.sys_reacts.specs.declared.First.TheVariants as first
use Rattle.sys_reacts.specs.Views.{front_of}
use Rattle.sys_reacts.proofs.Deliver.{deliver-is, there-true, there-false, delivered-net}
use Rattle.sys_rows.specs.Rows.{actor_of, Settled, Kept}
use Rattle.sys_rows.proofs.Laws.{as-stored, stored-laid}
use Rattle.sys_moves.specs.Views.{Rows, running, acked_in, Fine, Acted}

-- ---- an Ack
module _ (kind : Kind) (e : Envelope) (v : Number) (x : Rows) (used n : ℕ) (fine : Fine kind used n x) (s : Sent) (cs' : List (List ℕ))
    (ch : (last : Option Envelope) → Changed x.cells used n (on_deliver e (net_of kind last x.cells used)) s cs') where
  abbrev o : Around e.dst → Option Envelope → List Rule → Outcome Sys
  o = acked_in kind e v used x

  abbrev d : Durable
  d = acked v (durable_in x.live x.pend)

  net-then : NetReady kind cs' s.used s.len
  net-then = deliver-ready kind None x.cells used n fine.net s cs' e (ch None)

  abbrev then : Around e.dst → List Rule → Net → Outcome Sys
  then = λ hall rs m. running e.dst hall (Save d ∷ []) m rs (get_or x.live 6 0) d (get_or x.live 7 0) x

  pub ack-absent : is_done s.answer ≡ false
      → Acted e.dst o (last_after kind e) kind used n x s (record { cells = cs'; live = x.live; pend = x.pend; kept = x.kept; stored = x.stored })
  unfolding guard bind answer_of
  ack-absent f =
      let q = there-false kind e x.cells used n s cs' ch f in
      let z =
      (subst (λ (b : Bool). Changed x.cells used n (guard b 3 (done (delivering e (net_of kind None x.cells used)))) s cs') q
      (subst (λ (y : Outcome Net). Changed x.cells used n y s cs') (deliver-is kind e x.cells used n None) (ch None))).left in
      record {
        fine = record { net = net-then; room = (ch None).room ∙ fine.room; live = fine.live; kept = fine.kept };
        runs = λ h. absurd (not-both (is_done s.answer) h f);
        stops = λ h hall last rs.
            ap (λ (y : Outcome Net). bind y (then hall rs))
            (deliver-is kind e x.cells used n last ∙ ap (λ (b : Bool). guard b 3 (done (delivering e (net_of kind last x.cells used)))) q)
            ∙ ap (λ (y : Answer). refused (answer_number y)) (sym z.0);
        same = λ h. (λ j. record { cells = z.3 j; live = x.live; pend = x.pend; kept = x.kept; stored = x.stored }, z.1, z.2);
      }

  module _ (t : is_done s.answer ≡ true) (w' : List ℕ) (p' : List (List ℕ)) (put : Settled d (get_or x.live 6 0) (get_or x.live 7 0) x.live w' p')
      (k' : List ℕ) (q' : List (List ℕ)) (kept : Kept w' p' k' q') where
    -- The handler's part, once the message is out.
    handled : (hall : Around e.dst) (rs : List Rule) (m : Net) → then hall rs m ≡ done (holding e.dst hall m (actor_of rs w' p' k' q'))
    unfolding run_commands with_storage
    handled hall rs m =
        run-save e.dst hall m _ (room_of x.cells) [] d
        ∙ ap (λ (a : Actor). done (holding e.dst hall m a))
        (sym (as-stored rs d (get_or x.live 6 0) (get_or x.live 7 0) x.live w' p' put k' q' kept))

    pub ack-done : Acted e.dst o (last_after kind e) kind used n x s (record { cells = cs'; live = w'; pend = p'; kept = k'; stored = q' })
    unfolding bind
    ack-done = record {
      fine = record {
        net = net-then;
        room = (ch None).room ∙ fine.room;
        live = put.laid;
        kept = stored-laid w' p' k' q' kept put.laid;
      };
      runs = λ h hall last rs.
          ap (λ (y : Outcome Net). bind y (then hall rs))
          (delivered-net kind e x.cells used n s cs' ch (there-true kind e x.cells used n s cs' ch t) last)
          ∙ handled hall rs (net_of kind (last_after kind e last) cs' s.used);
      stops = λ h. absurd (not-both (is_done s.answer) t h);
      same = λ h. absurd (not-both (is_done s.answer) t h);
    }

-- ---- a row with no command
zero-sends : (r : List ℕ) (source : Id) (value : ℕ) → get_or r 5 0 ≡ 0 → sends (orders r source value) ≡ 0
unfolding sends orders
zero-sends r source value e = rw e

pub zero_number : (r : List ℕ) (source : Id) (value : ℕ) → get_or r 5 0 ≡ 0 → 0 + sends (orders r source value) ≤ 18446744073709551615
zero_number r source value e = let z = zero-sends r source value e in omega arith

pub zero-cmds : (r : List ℕ) (source : Id) (e : Envelope) (v : Number) → get_or r 5 0 ≡ 0
    → take most_told (front_of source (first.Message e v) ++ asked 0 (orders r source 0)) ≡ Send source (Ack v) ∷ []
unfolding front_of orders asked
zero-cmds r source e v z = rw z
