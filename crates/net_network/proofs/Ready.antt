-- A well-formed network is ready for a change, and a change of a ready one gives a ready one: a send keeps the order and is refused past the room,
-- a removal only takes away.
-- Assumes nothing.
use Prim.Native.Nat.{ℕ, ◌≤◌}
use native.Mathlib.Omega.{arith}
use mathlib.Core.Path.{◌≡◌, refl, sym, ap}
use mathlib.Core.Bool.{Bool, true, false}
use lib.ListN.{length, take}
use lib.Seq.{take-append_seam}
use lib.Dec.{leb}
use borrow.Author.Tests.{eqb-true, leb-true, le-leb}
use Rattle.lists.specs.Lists.{choose, all, chain, pad}
use Rattle.lists.proofs.Members.{and_both, all-make, cut-length}
use Rattle.lists.proofs.Chains.{is-chain}
use Rattle.types.specs.declared.Envelope.{Envelope}
use Rattle.types.specs.declared.Entry.{Entry}
use Rattle.types.specs.declared.Kind.{Kind}
use Rattle.types.specs.declared.Kind.TheVariants.{Ordered, UnorderedDuplicating, UnorderedNonDuplicating}
use Rattle.std.specs.Prelude.{Some}
use Rattle.types.specs.Capacities.{most_entries}
use Rattle.types.specs.Order.{same}
use Rattle.rules.specs.Outcome.{done, guard, base}
use Rattle.rules.specs.Network.{Net, sending, fits, send, fewer, remove, dropping, delivering, is_duplicating, on_deliver, on_drop}
use Rattle.rules.specs.WellFormed.{count_ok, in_order, net_ok}
use Rattle.rules.proofs.FormedNetwork.{net-is, fewer-length}
use Rattle.net_rows.proofs.Ready as place
use Rattle.net_network.specs.declared.Network.{Network}
use Rattle.net_network.specs.Views.{zero_entry, net_view, network_of, NetLaid, count_fits, NetReady, sent_of}
use Rattle.net_network.proofs.Changes.{used-is}

-- ---- a well-formed network
count_room : (k : Kind) (c : ℕ) → count_ok base.room.copies k c ≡ true → leb c base.room.copies ≡ true
unfolding count_ok
count_room Ordered c h = let z = eqb-true c 1 h in le-leb c _ (omega arith)
count_room UnorderedDuplicating c h = let z = eqb-true c 1 h in le-leb c _ (omega arith)
count_room UnorderedNonDuplicating c h = (and_both (leb 1 c) _ h).1

pub ready-of-ok : (k : ℕ) (n : Network) → NetLaid n → net_ok base.room k (net_view n) ≡ true → NetReady n
ready-of-ok k n laid h =
    let f = net-is base.room k (net_view n) h in
    record { laid = laid; order = is-chain _ _ f.order; counts = all-make _ _ (λ x m. count_room n.kind x.count (f.counts x m)) }

-- ---- the struct of a network
module _ (m : Net) (few : length m.entries ≤ most_entries) where
  seen : take (length m.entries) (pad most_entries zero_entry m.entries) ≡ m.entries
  unfolding pad
  seen = take-append_seam m.entries _

  pub viewed : net_view (network_of m) ≡ m
  viewed = let s = seen in λ i. record { kind = m.kind; entries = s i; last = m.last }

  pub laid_of : NetLaid (network_of m)
  laid_of = record { fit = few; rest = ap (pad most_entries zero_entry) (sym seen) }

-- The same facts of the rules' network.
pub record Orderly (m : Net) : Type 0 where
  pub few : length m.entries ≤ most_entries
  pub order : chain (in_order m.kind) m.entries ≡ true
  pub counts : all count_fits m.entries ≡ true

pub orderly-of : (n : Network) → NetReady n → Orderly (net_view n)
orderly-of n r = let v = used-is n r.laid in let f = r.laid.fit in record { few = omega arith; order = r.order; counts = r.counts }

pub ready_of : (m : Net) → Orderly m → NetReady (network_of m)
ready_of m o = let s = seen m o.few in record { laid = laid_of m o.few; order = rw s o.order; counts = rw s o.counts }

-- ---- the changes: order and counts are kept as they are in place
module _ (m : Net) (o : Orderly m) (e : Envelope) where
  inner : place.Orderly m
  inner = record { order = o.order; counts = o.counts }

  with-few : {x : Net} → length x.entries ≤ most_entries → place.Orderly x → Orderly x
  with-few f i = record { few = f; order = i.order; counts = i.counts }

  sends : fits base.room (sending e m) ≡ true → Orderly (sending e m)
  unfolding fits
  sends h = with-few (leb-true _ _ (and_both _ _ h).0) (place.sends m inner e most_entries (unfold fits in h))

  fewer-left : length (dropping e m).entries ≤ most_entries
  unfolding dropping remove
  fewer-left = let z = cut-length (λ (x : Entry). same e x.envelope) fewer fewer-length m.entries in let y = o.few in omega arith

  drops : Orderly (dropping e m)
  drops = with-few fewer-left (place.drops m inner e)

  delivers : Orderly (delivering e m)
  unfolding delivering choose
  delivers = with-few (go (is_duplicating m.kind)) (unfold delivering choose in place.delivers m inner e)
    where
      go : (b : Bool) → length (choose b (record { kind = m.kind; entries = m.entries; last = Some e }) (dropping e m)).entries ≤ most_entries
      go true = o.few
      go false = fewer-left

module _ (n : Network) (r : NetReady n) (e : Envelope) where
  kept : (b : Bool) (k : ℕ) (m : Net) → (b ≡ true → Orderly m) → NetReady (sent_of n (guard b k (done m))).network
  unfolding guard
  kept true k m f = ready_of m (f refl)
  kept false k m f = r

  pub send-ready : NetReady (sent_of n (send base.room e (net_view n))).network
  unfolding send
  send-ready = kept _ 8 (sending e (net_view n)) (sends (net_view n) (orderly-of n r) e)

  pub deliver-ready : NetReady (sent_of n (on_deliver e (net_view n))).network
  unfolding on_deliver
  deliver-ready = kept _ 3 (delivering e (net_view n)) (λ _. delivers (net_view n) (orderly-of n r) e)

  pub drop-ready : NetReady (sent_of n (on_drop e (net_view n))).network
  unfolding on_drop
  drop-ready = kept _ 3 (dropping e (net_view n)) (λ _. drops (net_view n) (orderly-of n r) e)
