-- A change of a ready network gives a ready one: a send keeps the order and is refused past the room, a removal only takes away.
-- Assumes nothing.
use Prim.Native.Nat.{ℕ, ◌-◌}
use native.Mathlib.Omega.{arith}
use mathlib.Core.Path.{◌≡◌, refl, sym, ap, ◌∙◌}
use mathlib.Core.Logic.{⊎_elim}
use mathlib.Core.Bool.{Bool, true, false}
use mathlib.Core.List.Memᴰ
use mathlib.Core.List.{List, map}
use lib.ListN.{length}
use lib.Dec.{leb}
use borrow.Author.Tests.{leb-true, le-leb}
use Rattle.lists.specs.Lists.{◌∈◌, choose, all, chain}
use Rattle.lists.proofs.Members.{and_both, all_in, all-make, cut_in, in-choose}
use Rattle.lists.proofs.Chains.{chain-is, is-chain, place-chain, cut-chain}
use Rattle.types.specs.declared.Envelope.{Envelope}
use Rattle.types.specs.declared.Entry.{Entry}
use Rattle.types.specs.declared.Kind.{Kind}
use Rattle.std.specs.Prelude.{Option, Some}
use Rattle.types.specs.Capacities.{most_copies}
use Rattle.rules.specs.Outcome.{done, guard}
use Rattle.rules.specs.Network.{Net, put, sending, fits, send, lowered, fewer, remove, dropping, delivering, is_duplicating, on_deliver, on_drop}
use Rattle.rules.specs.WellFormed.{in_order}
use Rattle.rules.proofs.FormedNetwork.{net-places, net-cuts}
use Rattle.net_cells.specs.Cells.{cell_of}
use Rattle.net_rows.specs.declared.Sent.{Sent}
use Rattle.net_rows.specs.Views.{net_of, room_of, NetReady, Changed}
use Rattle.net_rows.proofs.Last.{delivered-kind}

-- The order and the counts of the rules' network.
pub record Orderly (m : Net) : Type 0 where
  pub order : chain (in_order m.kind) m.entries ≡ true
  pub counts : all (λ x. leb x.count most_copies) m.entries ≡ true

lowered-room : (y x : Entry) → x ∈ fewer y → leb y.count most_copies ≡ true → leb x.count most_copies ≡ true
unfolding fewer lowered
lowered-room y x i h =
    let z = leb-true y.count most_copies h in
    ⊎_elim
    (λ t. absurd (Memᴰ.not-nil t.1))
    (λ t. let w : x ≡ lowered y = Memᴰ.eq_of_singleton t.1 in rw w (le-leb (y.count - 1) most_copies (omega arith)))
    (in-choose _ _ _ i)

module _ (m : Net) (o : Orderly m) (e : Envelope) where
  pub sends : (n : ℕ) → fits (record { entries = n; copies = most_copies }) (sending e m) ≡ true → Orderly (sending e m)
  unfolding fits sending put
  sends n h = let z = and_both (leb (length (sending e m).entries) n) _ h in record {
    order = is-chain _ _ (place-chain (in_order m.kind) _ _ _ _ (net-places m.kind e) m.entries (chain-is _ _ o.order));
    counts = z.1;
  }

  pub drops : Orderly (dropping e m)
  unfolding dropping remove
  drops = record {
    order = is-chain _ _ (cut-chain (in_order m.kind) _ _ (net-cuts m.kind _) m.entries (chain-is _ _ o.order));
    counts =
        let fit = all_in _ _ o.counts in
        all-make _ _ (λ x i. ⊎_elim (fit x) (λ q. lowered-room q.0 x q.2 (fit q.0 q.1)) (cut_in _ _ m.entries x i));
  }

  pub delivers : Orderly (delivering e m)
  unfolding delivering choose
  delivers = go (is_duplicating m.kind)
    where
      go : (b : Bool) → Orderly (choose b (record { kind = m.kind; entries = m.entries; last = Some e }) (dropping e m))
      go true = record { order = o.order; counts = o.counts }
      go false = drops

module _ (k : Kind) (last : Option Envelope) (cs : List (List ℕ)) (used n : ℕ) (ready : NetReady k cs used n) (r : Sent) (cs' : List (List ℕ)) where
  abbrev m : Net
  m = net_of k last cs used

  orderly : Orderly m
  orderly = record { order = ready.order; counts = ready.laid.counts }

  -- an outcome that is guarded by one test
  ready-left
      : (b : Bool) (j : ℕ) (x : Net) → (b ≡ true → Orderly x) → x.kind ≡ k → Changed cs used n (guard b j (done x)) r cs'
      → NetReady k cs' r.used r.len
  unfolding guard
  ready-left true j x f q c =
      let h = c.left.1 in
      let g = f refl in
      let rest = ready.laid.room in
      record {
        laid = record {
          fit = h.fit;
          room = omega (arith, c.room);
          cells = h.cells ∙ ap (map cell_of) (sym h.entries);
          counts = rw h.entries g.counts;
          sum = h.sum ∙ rw h.entries;
        };
        order = rw (h.entries, ← q) g.order;
      }
  ready-left false j x f q c = let z = c.left in rw (z.1, z.2, z.3) ready

  pub send-ready : (e : Envelope) → Changed cs used n (send (room_of cs) e m) r cs' → NetReady k cs' r.used r.len
  unfolding send sending
  send-ready e c = ready-left _ 8 _ (λ h. unfold sending in sends m orderly e (length cs) h) refl c

  pub drop-ready : (e : Envelope) → Changed cs used n (on_drop e m) r cs' → NetReady k cs' r.used r.len
  unfolding on_drop dropping
  drop-ready e c = ready-left _ 3 _ (λ _. unfold dropping in drops m orderly e) refl c

  pub deliver-ready : (e : Envelope) → Changed cs used n (on_deliver e m) r cs' → NetReady k cs' r.used r.len
  unfolding on_deliver delivering
  deliver-ready e c = ready-left _ 3 _ (λ _. unfold delivering in delivers m orderly e) (delivered-kind e m) c
