-- A network that is laid out is the struct of its view. Its cells are a network in place with the same view, and what a change leaves of the cells is
-- laid back as the rules say.
-- Assumes nothing.
use Prim.Native.Nat.{ℕ, ◌≤◌}
use native.Mathlib.Omega.{arith}
use mathlib.Core.Path.{◌≡◌, refl, sym, ap, ap₂, ◌∙◌, subst}
use mathlib.Core.Bool.{Bool, true, false, ◌||◌, true≢false}
use mathlib.Core.List.{List, map}
use lib.ListN.{length, take, length-map}
use lib.Seq.{length-take-le}
use Rattle.lists.specs.Lists.{pad}
use Rattle.lists.proofs.Places.{laid-length}
use Rattle.types.specs.declared.Envelope.{Envelope}
use Rattle.types.specs.declared.Kind.{Kind}
use Rattle.types.specs.declared.Kind.TheVariants.{Ordered, UnorderedDuplicating, UnorderedNonDuplicating}
use Rattle.std.specs.Prelude.{Option}
use Rattle.types.specs.Capacities.{most_entries, most_copies}
use Rattle.answers.specs.Answers.{answer_of}
use Rattle.rules.specs.Outcome.{Outcome, done, guard, Room, base}
use Rattle.rules.specs.Network.{Net, sending, send, is_duplicating, dropping, delivering, present, on_deliver, on_drop, len}
use Rattle.net_cells.specs.Cells.{cell_of, entry_of}
use Rattle.net_layout.specs.Layout.{LaidOut, Readable}
use Rattle.net_layout.proofs.Laws.{out-room, out-used, out-entries}
use Rattle.net_rows.specs.declared.Sent.{Sent}
use Rattle.net_rows.specs.Views.{net_of, last_after, room_of, Changed}
use Rattle.net_rows.specs.Views as rows
use Rattle.net_rows.proofs.Ready as kept
use Rattle.net_rows.proofs.Last.{delivered-kind, delivered-last}
use Rattle.net_network.specs.declared.Network.{Network}
use Rattle.net_network.specs.Views.{zero_entry, entry_list, net_view, network_of, NetLaid, NetReady, back, sent_of}
use Rattle.net_network.specs.Parts.{read_back}

module _ (n : Network) (laid : NetLaid n) where
  pub used-is : length (entry_list n) ≡ n.used
  used-is = laid-length most_entries zero_entry n.entries n.used laid.fit laid.rest

  pub held : n ≡ network_of (net_view n)
  held = let v = used-is in λ i. record { kind = n.kind; entries = laid.rest i; used = sym v i; last = n.last }

-- ---- the cells of a ready network
module _ (n : Network) (ready : NetReady n) (cs : List (List ℕ)) (out : LaidOut (entry_list n) cs) where
  few : length (entry_list n) ≤ most_entries
  few = omega (arith, used-is n ready.laid, ready.laid.fit)

  pub cells-room : length cs ≡ most_entries
  cells-room = out-room out few

  pub cells-entries : rows.entry_list cs n.used ≡ entry_list n
  cells-entries = ap (λ (u : ℕ). rows.entry_list cs u) (sym (used-is n ready.laid)) ∙ out-entries out few

  cells-used : take n.used cs ≡ map cell_of (entry_list n)
  cells-used = ap (λ (u : ℕ). take u cs) (sym (used-is n ready.laid)) ∙ out-used out few

  pub cells-net : net_of n.kind n.last cs n.used ≡ net_view n
  cells-net = let e = cells-entries in λ i. record { kind = n.kind; entries = e i; last = n.last }

  pub cells_limits : room_of cs ≡ base.room
  cells_limits = let e = cells-room in λ i. record { entries = e i; copies = most_copies }

  module _ (count : ℕ) (sum : count ≡ len (entry_list n)) where
    pub cells-ready : rows.NetReady n.kind cs n.used count
    cells-ready =
        let e = cells-entries in
        let r = cells-room in
        let f = ready.laid.fit in
        record {
          laid = record {
            fit = omega arith;
            room = omega arith;
            cells = cells-used ∙ ap (map cell_of) (sym e);
            counts = rw e ready.counts;
            sum = sum ∙ ap len (sym e);
          };
          order = rw e ready.order;
        }

-- ---- what cells hold, as a struct
module _ {k : Kind} {cs : List (List ℕ)} {used n : ℕ} (ready : rows.NetReady k cs used n) (room : length cs ≡ most_entries) where
  pub readable : Readable cs used
  readable = let f = ready.laid.fit in record { fit = f; few = omega arith; counts = ready.laid.counts }

  pub read_is : (last : Option Envelope) → read_back k cs used last ≡ network_of (net_of k last cs used)
  read_is last =
      let v : used ≡ length (rows.entry_list cs used) = sym (length-map (take used cs) entry_of ∙ length-take-le used cs ready.laid.fit) in
      λ i. record { kind = k; entries = pad most_entries zero_entry (rows.entry_list cs used); used = v i; last = last }

-- ---- a change, laid back
-- The duplicating kind cannot refuse a Deliver; another keeps its last message.
refused-last : (k : Kind) (e : Envelope) (last : Option Envelope) (b : Bool) → (is_duplicating k || b) ≡ false → last_after k e last ≡ last
unfolding is_duplicating
refused-last Ordered e last b h = refl
refused-last UnorderedDuplicating e last b h = absurd (true≢false h)
refused-last UnorderedNonDuplicating e last b h = refl

module _
    (n : Network) (ready : NetReady n) (cs : List (List ℕ)) (out : LaidOut (entry_list n) cs) (count : ℕ) (sum : count ≡ len (entry_list n)) (s : Sent)
    (cs' : List (List ℕ)) where
  -- the change in place, its outcome as the rules have it, and the same laid back with a last message
  abbrev Made : Outcome Net → Type 0
  Made o = Changed cs n.used count o s cs'

  abbrev here : Net
  here = net_of n.kind n.last cs n.used

  abbrev LaidBack : Option Envelope → Outcome Net → Type 0
  LaidBack last o = Readable cs' s.used × (back s.answer (read_back n.kind cs' s.used last) ≡ sent_of n o)

  -- an outcome that is guarded by one test; where the test fails, the last message has to be the one that was
  guarded-back
      : (b : Bool) (j : ℕ) (x : Net) (last : Option Envelope) → x.kind ≡ n.kind → x.last ≡ last → (b ≡ false → last ≡ n.last)
      → Made (guard b j (done x)) → back s.answer (read_back n.kind cs' s.used last) ≡ sent_of n (guard b j (done x))
  unfolding guard answer_of
  guarded-back true j x last p q f c =
      let h = c.left.1 in
      let v : s.used ≡ length x.entries =
      sym (length-map (take s.used cs') entry_of ∙ length-take-le s.used cs' h.fit) ∙ ap length h.entries in
      ap₂ back c.left.0 (λ i. record { kind = sym p i; entries = pad most_entries zero_entry (h.entries i); used = v i; last = sym q i })
  guarded-back false j x last p q f c =
      let z = c.left in
      let e : pad most_entries zero_entry (rows.entry_list cs n.used) ≡ n.entries =
      ap (pad most_entries zero_entry) (cells-entries n ready cs out) ∙ sym ready.laid.rest in
      let l = f refl in
      ap₂ back z.0
      ((λ i. read_back n.kind (z.3 i) (z.1 i) (l i)) ∙ (λ i. record { kind = n.kind; entries = e i; used = n.used; last = n.last }))

  readable-by : {o : Outcome Net} → Made o → rows.NetReady n.kind cs' s.used s.len → Readable cs' s.used
  readable-by c r = readable r (c.room ∙ cells-room n ready cs out)

  -- the room and the view, as the struct has them
  as_struct : (f : Room → Net → Outcome Net) → Made (f (room_of cs) here) → Made (f base.room (net_view n))
  as_struct f c = subst Made (ap₂ f (cells_limits n ready cs out) (cells-net n ready cs out)) c

  before : rows.NetReady n.kind cs n.used count
  before = cells-ready n ready cs out count sum

  pub send-back : (e : Envelope) → Made (send (room_of cs) e here) → LaidBack n.last (send base.room e (net_view n))
  unfolding send sending
  send-back e c = (
    readable-by c (unfold send sending in kept.send-ready n.kind n.last cs n.used count before s cs' e c),
    guarded-back _ 8 _ n.last refl refl (λ _. refl) (as_struct (λ r m. send r e m) c),
  )

  pub drop-back : (e : Envelope) → Made (on_drop e here) → LaidBack n.last (on_drop e (net_view n))
  unfolding on_drop dropping
  drop-back e c = (
    readable-by c (unfold on_drop dropping in kept.drop-ready n.kind n.last cs n.used count before s cs' e c),
    guarded-back _ 3 _ n.last refl refl (λ _. refl) (as_struct (λ r m. on_drop e m) c),
  )

  pub deliver-back : (e : Envelope) → Made (on_deliver e here) → LaidBack (last_after n.kind e n.last) (on_deliver e (net_view n))
  unfolding on_deliver
  deliver-back e c = (
    readable-by c (unfold on_deliver in kept.deliver-ready n.kind n.last cs n.used count before s cs' e c),
    guarded-back _ 3 (delivering e (net_view n)) _ (delivered-kind e (net_view n)) (delivered-last e (net_view n))
        (refused-last n.kind e n.last (present e (net_view n))) (as_struct (λ r m. on_deliver e m) c),
  )
