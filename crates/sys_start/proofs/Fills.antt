-- The given envelopes: sent in turn into the cells, they are what the rules put into the system.
-- Assumes nothing.
use Prim.Native.Nat.{ℕ, suc, ◌≤◌, ◌<◌}
use native.Mathlib.Omega.{arith}
use mathlib.Core.Path.{◌≡◌, refl, sym, ap, ◌∙◌}
use mathlib.Core.Bool.{true, false, true≢false}
use mathlib.Core.List.{List}
use lib.ListN.{length, take, get_or}
use lib.Seq.{slice, slice-cons, slice_empty}
use Rattle.types.specs.Capacities.{most_entries, most_copies}
use Rattle.lists.specs.Lists.{all, chain}
use Rattle.types.specs.declared.Envelope.{Envelope}
use Rattle.types.specs.declared.Kind.{Kind}
use Rattle.std.specs.Prelude.{Option, None}
use Rattle.answers.specs.Answers.{Answer}
use Rattle.answers.specs.Answers.{Done}
use Rattle.answers.specs.Answers.{answer_number, is_done}
use Rattle.rules.specs.Outcome.{Outcome, refused, bind, Room, base}
use Rattle.rules.specs.Network.{Net, send, len}
use Rattle.rules.specs.System.{Sys, with_net}
use Rattle.rules.specs.System as rules
use Rattle.rules.specs.Start.{fill}
use Rattle.net_rows.specs.declared.Sent.{Sent}
use Rattle.net_rows.specs.Views.{net_of, room_of, NetReady, Changed}
use Rattle.net_rows.proofs.Ready.{send-ready}
use Rattle.sys_emits.proofs.Laws.{not-both, sent-full, sent-on, sent-stops}
use Rattle.sys_start.specs.Views.{empty_net, sys_on, Filled}

-- Cells of which none is used.
pub empty-ready : (k : Kind) (cs : List (List ℕ)) → length cs ≡ most_entries → NetReady k cs 0 0
unfolding chain all len
empty-ready k cs h = record { laid = record { fit = omega arith; room = omega arith; cells = refl; counts = refl; sum = refl }; order = refl }

module _ (k : Kind) (list : List Envelope) (count : ℕ) where
  abbrev whole : List rules.Actor → Outcome Sys
  whole l = fill base.room (take count list) (record { net = empty_net k; actors = l })

  -- After i envelopes: the rest from here gives what all of them give from the start.
  pub record Filling (cs : List (List ℕ)) (used n i : ℕ) : Type 0 where
    pub net : NetReady k cs used n
    pub room : length cs ≡ most_entries
    pub same : (l : List rules.Actor) → whole l ≡ fill base.room (slice i count list) (sys_on k cs used l)

  pub fill_begins : (cs : List (List ℕ)) → length cs ≡ most_entries → Filling cs 0 0 0
  fill_begins cs h = record { net = empty-ready k cs h; room = h; same = λ l. refl }

  module _ (cs : List (List ℕ)) (used n i : ℕ) (g : Filling cs used n i) (h : i < count) (fit : count ≤ length list) (z : Envelope)
      (s : Sent) (cs' : List (List ℕ))
      (ch : (last : Option Envelope) → Changed cs used n (send (room_of cs) (get_or list i z) (net_of k last cs used)) s cs') where
    limits : base.room ≡ room_of cs
    limits = let e = g.room in λ j. record { entries = sym e j; copies = most_copies }

    abbrev onward : List rules.Actor → Net → Outcome Sys
    onward l m = fill base.room (slice (suc i) count list) (record { net = m; actors = l })

    next : (l : List rules.Actor) → whole l ≡ bind (send (room_of cs) (get_or list i z) (net_of k None cs used)) (onward l)
    unfolding fill with_net
    next l =
        g.same l ∙ ap (λ (es : List Envelope). fill base.room es (sys_on k cs used l)) (slice-cons i count list z h fit)
        ∙ ap (λ (r : Room). bind (send r (get_or list i z) (net_of k None cs used)) (onward l)) limits

    ready : NetReady k cs' s.used s.len
    ready = send-ready k None cs used n g.net s cs' (get_or list i z) (ch None)

    pub fill-goes : is_done s.answer ≡ true → Filling cs' s.used s.len (suc i)
    fill-goes t = record {
      net = ready;
      room = (ch None).room ∙ g.room;
      same = λ l. next l ∙ sent-on k None cs used n (get_or list i z) s cs' (ch None) (onward l) t;
    }

    pub fill_stops : is_done s.answer ≡ false → Filled k (take count list) s cs'
    fill_stops f = record {
      net = ready;
      room = (ch None).room ∙ g.room;
      runs = λ t. absurd (not-both (is_done s.answer) t f);
      stops = λ _ l. next l ∙ sent-stops k None cs used n (get_or list i z) s cs' (ch None) (onward l) f
          ∙ ap (λ (a : Answer). refused (answer_number a)) (sym (sent-full k None cs used n (get_or list i z) s cs' (ch None) f));
    }

  pub fill-ends : (cs : List (List ℕ)) (used n : ℕ) → Filling cs used n count
      → Filled k (take count list) (record { answer = Done; used = used; len = n }) cs
  unfolding fill
  fill-ends cs used n g = record {
    net = g.net;
    room = g.room;
    runs = λ _ l. g.same l ∙ ap (λ (es : List Envelope). fill base.room es (sys_on k cs used l)) (slice_empty count list);
    stops = λ f. absurd (true≢false f);
  }
