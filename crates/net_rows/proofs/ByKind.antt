-- The rules of the three kinds, by the places that searches over cells find.
-- Assumes nothing.
use Prim.Native.Nat.{ℕ, ◌≤◌, ◌<◌}
use native.Mathlib.Omega.{arith}
use native.Mathlib.Decide.{dec_le}
use mathlib.Core.Path.{◌≡◌, refl, sym, ap, ◌∙◌, subst}
use mathlib.Core.Bool.{Bool, true, false, not, ◌||◌}
use mathlib.Core.List.{List, [], ◌∷◌}
use lib.ListN.{length, take, get_or, set}
use lib.Seq.{set-get_or}
use lib.Dec.{leb}
use borrow.Author.Tests.{le-leb, lt-leb}
use Rattle.lists.specs.Lists.{choose, chain, lead, ins}
use Rattle.lists.proofs.Places.{lead-le}
use Rattle.lists.proofs.Sorted.{All}
use Rattle.lists.proofs.Members.{or-true}
use Rattle.types.specs.declared.Envelope.{Envelope}
use Rattle.types.specs.declared.Entry.{Entry}
use Rattle.types.specs.declared.Kind.{Kind}
use Rattle.types.specs.declared.Kind.TheVariants.{Ordered, UnorderedDuplicating, UnorderedNonDuplicating}
use Rattle.answers.specs.Answers.{Done}
use Rattle.answers.specs.Answers.{answer_of}
use Rattle.types.specs.Order.{lex, cmp_envelope, cmp_flow, is_less, is_equal, same}
use Rattle.types.proofs.Laws.{and_then-equal, lex-trans, less-is, same-is}
use Rattle.rules.specs.Outcome.{done, guard}
use Rattle.rules.specs.Network.{single, again, put, sending, send, is_duplicating, remove, dropping, delivering, present, on_deliver, on_drop}
use Rattle.rules.specs.WellFormed.{in_order}
use Rattle.rules.proofs.Network.{put-ordered, put-new, put-again, remove-last, remove-one, remove_absent}
use Rattle.net_rows.specs.Search.{stands, look_up}
use Rattle.std.specs.Prelude.{Ok, Err}
use Rattle.net_slots.proofs.Tests.{any-yes, any-no}
use Rattle.net_rows.proofs.Lookup.{There, Missing, before, told_at, told_free}
use Rattle.net_cells.specs.Cells.{zero_entry, cell_of, cmp_cell, flow_of, Packed}
use Rattle.net_cells.proofs.Laws.{Narrow, cell-order, cell-flows, narrow, narrow-all, lead-cells, chain-cells}
use Rattle.net_slots.specs.Search.{stands_before, up_to_flow, Once}
use Rattle.net_slots.proofs.Laws.{once, flows, flows-trans}
use Rattle.net_rows.specs.declared.Sent.{Sent}
use Rattle.net_rows.specs.Views.{entry_list, net_with, net_of, room_of, NetLaid, NetReady, Holds, Changed, Makes, taken_at, TakesOut}
use Rattle.net_rows.specs.Parts.{envelope_in, Alone, fitting, counted_at, Enters, absent_of}
use Rattle.net_rows.proofs.Laws.{changed-done, changed-not, sized, at-cell, narrow_at, as_it_was, unchanged}

-- ---- the kinds
-- On kinds 1 and 2 the entries ascend.
pub ascend : (k : Kind) → (k ≡ Ordered → ⊥) → (l : List Entry) → chain (in_order k) l ≡ true → chain stands l ≡ true
unfolding in_order
ascend Ordered n l h = absurd (n refl)
ascend UnorderedDuplicating n l h = h
ascend UnorderedNonDuplicating n l h = h

pub set-sorted : UnorderedDuplicating ≡ Ordered → ⊥
set-sorted o = let z : ◌≡◌ {A = ℕ} 0 1 = cc in omega arith

pub counted-sorted : UnorderedNonDuplicating ≡ Ordered → ⊥
counted-sorted o = let z : ◌≡◌ {A = ℕ} 0 1 = cc in omega arith

pub not-duplicating : (k : Kind) → (k ≡ UnorderedDuplicating → ⊥) → is_duplicating k ≡ false
unfolding is_duplicating
not-duplicating Ordered n = refl
not-duplicating UnorderedDuplicating n = absurd (n refl)
not-duplicating UnorderedNonDuplicating n = refl

-- ---- the cell of an envelope
pub envelope-is : (e : Envelope) (k : List ℕ) → Packed (single e) k → envelope_in k ≡ e
unfolding single
envelope-is e k p = ap (λ (x : Entry). x.envelope) p.back

pub is-alone : (e : Envelope) (k : List ℕ) → Packed (single e) k → Alone k
is-alone e k p = p.cell ∙ ap (λ (x : Envelope). cell_of (single x)) (sym (envelope-is e k p))

-- a kind and an envelope as the caller names them
pub ready-as : {k j : Kind} {cs : List (List ℕ)} {used n : ℕ} → k ≡ j → NetReady k cs used n → NetReady j cs used n
ready-as {cs = cs} {used = used} {n = n} e r = subst (λ (i : Kind). NetReady i cs used n) e r

pub sent-as
    : {cs cs' : List (List ℕ)} {used n : ℕ} {r : Sent} {kind j : Kind} {k : List ℕ} (e : Envelope) → Packed (single e) k → kind ≡ j
    → Makes (send (room_of cs) (envelope_in k)) j cs used n r cs' → Makes (send (room_of cs) e) kind cs used n r cs'
sent-as {cs} {cs'} {used} {n} {r} {kind} {j} {k} e p q c last =
    subst (λ (h : Kind). Changed cs used n (send (room_of cs) e (net_of h last cs used)) r cs') (sym q)
    (subst (λ (g : Envelope). Changed cs used n (send (room_of cs) g (net_of j last cs used)) r cs') (envelope-is e k p) (c last))

pub place-as
    : (e : Envelope) (k : List ℕ) → Packed (single e) k
    → (l : List Entry) → lead (λ x. not (same (envelope_in k) x.envelope)) l ≡ lead (λ x. not (same e x.envelope)) l
place-as e k p l = ap (λ (f : Envelope). lead (λ x. not (same f x.envelope)) l) (envelope-is e k p)

-- ---- the order of cells
abbrev key : List ℕ → List ℕ
key x = get_or x 0 0 ∷ get_or x 1 0 ∷ get_or x 2 0 ∷ []

cell-lex : (x y : List ℕ) → cmp_cell x y ≡ lex (key x) (key y)
unfolding cmp_cell
cell-lex x y = simp (and_then-equal)

abbrev pub ascends : List ℕ → List ℕ → Bool
ascends x y = is_less (cmp_cell x y)

pub ascends-trans : (x y z : List ℕ) → ascends x y ≡ true → ascends y z ≡ true → ascends x z ≡ true
ascends-trans x y z e f =
    ap is_less (cell-lex x z ∙ lex-trans (key x) (key y) (key z) (sym (cell-lex x y) ∙ less-is _ e) (sym (cell-lex y z) ∙ less-is _ f))

same-turned : (a b : Envelope) → same a b ≡ same b a
same-turned a b = go (same a b) refl (same b a) refl
  where
    go : (s : Bool) → same a b ≡ s → (t : Bool) → same b a ≡ t → s ≡ t
    go true e true f = refl
    go true e false f =
        let z = same-is a b e in sym (subst (λ (x : Envelope). same a x ≡ true) (sym z) e) ∙ subst (λ (x : Envelope). same x a ≡ false) (sym z) f
    go false e true f =
        let z = same-is b a f in sym (subst (λ (x : Envelope). same x b ≡ false) (sym z) e) ∙ subst (λ (x : Envelope). same b x ≡ true) (sym z) f
    go false e false f = refl

module _ {cs : List (List ℕ)} {used n : ℕ} (laid : NetLaid cs used n) where
  abbrev l : List Entry
  l = entry_list cs used

  narrow-here : All Narrow l
  narrow-here = narrow-all (take used cs)

  cells-ascend : chain stands l ≡ true → chain ascends (take used cs) ≡ true
  cells-ascend s =
      ap (chain ascends) laid.cells
      ∙ chain-cells cell_of Narrow ascends stands (λ x y p q. ap is_less (cell-order x y p q)) l narrow-here ∙ s

  pub cells-flow : chain (in_order Ordered) l ≡ true → chain flows (take used cs) ≡ true
  unfolding in_order
  cells-flow s =
      ap (chain flows) laid.cells ∙ chain-cells cell_of Narrow flows (in_order Ordered) (λ x y p q. cell-flows x y p q) l narrow-here ∙ s

  module _ {k : List ℕ} (alone : Alone k) where
    abbrev e : Envelope
    e = envelope_in k

    order-of : (x : Entry) → Narrow x → cmp_cell (cell_of x) k ≡ cmp_envelope x.envelope e
    unfolding single
    order-of x p = ap (cmp_cell (cell_of x)) alone ∙ cell-order x (single e) p (narrow k)

    same_of : (x : Entry) → Narrow x → is_equal (cmp_cell (cell_of x) k) ≡ same e x.envelope
    unfolding same
    same_of x p = ap is_equal (order-of x p) ∙ unfold same in same-turned x.envelope e

    -- ---- the searches
    pub once-before : chain stands l ≡ true → Once (stands_before k) (length (take used cs)) (take used cs)
    once-before s = once ascends ascends-trans (take used cs) (cells-ascend s) (stands_before k) (λ x y r p. ascends-trans x y k r p)

    -- a walk over the cells is one over the entries
    walk_is : (p : List ℕ → Bool) (q : Entry → Bool) → ((x : Entry) → Narrow x → p (cell_of x) ≡ q x) → lead p (take used cs) ≡ lead q l
    walk_is p q f = ap (lead p) laid.cells ∙ lead-cells cell_of Narrow p q f l narrow-here

    pub before-is : (at : ℕ) → at ≡ lead (stands_before k) (take used cs) → at ≡ lead (before e) l
    before-is at p = p ∙ walk_is (stands_before k) (before e) (λ x q. ap is_less (order-of x q))

    pub found-is : (at : ℕ) → at < used → (b : Bool) → b ≡ is_equal (cmp_cell (get_or cs at []) k) → same e (get_or l at zero_entry).envelope ≡ b
    found-is at h b p =
        sym (p ∙ ap (λ (x : List ℕ). is_equal (cmp_cell x k)) (at-cell laid at h) ∙ same_of (get_or l at zero_entry) (narrow_at laid at h))

    flow-is : (at : ℕ) → at ≡ lead (up_to_flow k) (take used cs) → at ≡ lead (λ x. not (is_less (cmp_flow e x.envelope))) l
    unfolding single
    flow-is at p =
        p ∙ walk_is (up_to_flow k) (λ x. not (is_less (cmp_flow e x.envelope)))
        (λ x q. ap (λ (c : List ℕ). leb (flow_of (cell_of x)) (flow_of c)) alone ∙ cell-flows x (single e) q (narrow k))

    pub once-flow : chain (in_order Ordered) l ≡ true → Once (up_to_flow k) (length (take used cs)) (take used cs)
    once-flow s = once flows flows-trans (take used cs) (cells-flow s) (up_to_flow k) (λ x y r p. flows-trans x y k r p)

    pub differ-is : (at : ℕ) → at ≡ lead (λ x. not (is_equal (cmp_cell x k))) (take used cs) → at ≡ lead (λ x. not (same e x.envelope)) l
    differ-is at p = p ∙ walk_is (λ x. not (is_equal (cmp_cell x k))) (λ x. not (same e x.envelope)) (λ x q. ap not (same_of x q))

    -- ---- sends
    sent-by
        : {r : Sent} {cs' : List (List ℕ)} (kind : Kind) (f : List Entry → List Entry) → put kind e l ≡ f l
        → Enters f cs used n r cs' → Makes (send (room_of cs) e) kind cs used n r cs'
    unfolding send sending
    sent-by {r} {cs'} kind f p c last = subst (λ (q : List Entry). Changed cs used n (fitting (room_of cs) kind last q) r cs') (sym p) (c kind last)

    pub sent-flow
        : {r : Sent} {cs' : List (List ℕ)} (at : ℕ) → at ≡ lead (up_to_flow k) (take used cs) → Enters (ins at (single e)) cs used n r cs'
        → Makes (send (room_of cs) e) Ordered cs used n r cs'
    sent-flow at p c = sent-by Ordered (ins at (single e)) (let q = flow-is at p in rw q (put-ordered e zero_entry l)) c

    -- by the look-up, where the entries ascend
    module _ {kind : Kind} (sorted : kind ≡ Ordered → ⊥) (order : chain (in_order kind) l ≡ true) (at : ℕ) where
      there : look_up e l ≡ Ok at → There e l at
      there q = told_at e l (ascend kind sorted l order) at q

      missing : look_up e l ≡ Err at → Missing e l at
      missing q = told_free e l (ascend kind sorted l order) at q

      pub at-fits : look_up e l ≡ Ok at → at < used
      at-fits q = let m = (there q).within in let v = sized laid in omega arith

      pub free-fits : look_up e l ≡ Err at → at ≤ used
      free-fits q = let m = (missing q).place in let v = sized laid in omega (arith, lead-le (before e) l)

      pub sent-free
          : {r : Sent} {cs' : List (List ℕ)} → look_up e l ≡ Err at → Enters (ins at (single e)) cs used n r cs'
          → Makes (send (room_of cs) e) kind cs used n r cs'
      sent-free q c =
          let m = missing q in
          sent-by kind (ins at (single e)) (rw m.place (put-new e zero_entry l kind sorted (rw m.place at m.other))) c

      put-there : look_up e l ≡ Ok at → put kind e l ≡ set l at (again kind (get_or l at zero_entry))
      put-there q =
          let m = there q in
          rw m.place (put-again e zero_entry l kind sorted (rw m.place at m.within) (rw m.place at m.found))

    pub sent-same
        : (order : chain (in_order UnorderedDuplicating) l ≡ true) (at : ℕ) → look_up e l ≡ Ok at
        → Makes (send (room_of cs) e) UnorderedDuplicating cs used n (record { answer = Done; used = used; len = n }) cs
    unfolding again
    sent-same o at q = sent-by UnorderedDuplicating (λ m. m) (put-there set-sorted o at q ∙ set-get_or l at zero_entry) (unchanged laid)

    pub sent-again
        : {r : Sent} {cs' : List (List ℕ)} (order : chain (in_order UnorderedNonDuplicating) l ≡ true) (at : ℕ) → look_up e l ≡ Ok at
        → Enters (counted_at at) cs used n r cs' → Makes (send (room_of cs) e) UnorderedNonDuplicating cs used n r cs'
    unfolding counted_at
    sent-again o at q c = sent-by UnorderedNonDuplicating (counted_at at) (put-there counted-sorted o at q) c

  -- ---- removals
  module _ (e : Envelope) where
    abbrev first : ℕ
    first = lead (λ x. not (same e x.envelope)) l

    taken_is : first < length l → taken_at first l ≡ remove e l
    unfolding taken_at choose
    taken_is h = go (dec_le (get_or l first zero_entry).count 1)
      where
        go : Dec ((get_or l first zero_entry).count ≤ 1) → taken_at first l ≡ remove e l
        go (yes k) = rw (le-leb (get_or l first zero_entry).count 1 k) (sym (remove-last e zero_entry l h k))
        go (no k) =
            let z : 1 < (get_or l first zero_entry).count = omega arith in
            rw (lt-leb (get_or l first zero_entry).count 1 z) (sym (remove-one e zero_entry l h z))

    module _ (kind : Kind) (at : ℕ) (p : at ≡ first) where
      pub dropped
          : {r : Sent} {cs' : List (List ℕ)} → at < used → TakesOut at cs used n r cs' → Makes (on_drop e) kind cs used n r cs'
      unfolding on_drop present dropping guard
      dropped {r} {cs'} h c last =
          let v = sized laid in
          let w : first < length l = omega arith in
          rw (any-yes (λ x. same e x.envelope) l w, or-true (is_duplicating kind))
          (subst (λ (q : List Entry). Changed cs used n (done (net_with kind last q)) r cs') (ap (λ (i : ℕ). taken_at i l) p ∙ taken_is w) (c kind last))

      pub absent : used ≤ at → Makes (on_drop e) kind cs used n (record { answer = absent_of kind; used = used; len = n }) cs
      unfolding on_drop present dropping guard is_duplicating answer_of
      absent h last =
          let v = sized laid in
          let w : length l ≤ first = omega arith in
          rw (any-no (λ x. same e x.envelope) l w) (go kind (remove_absent e zero_entry l w))
        where
          go
              : (k : Kind) → remove e l ≡ l
              → Changed cs used n (guard (is_duplicating k || false) 3 (done (net_with k last (remove e l))))
              (record { answer = absent_of k; used = used; len = n }) cs
          go Ordered q = changed-not refl refl
          go UnorderedDuplicating q = changed-done refl refl (subst (Holds cs used n) (sym q) (as_it_was laid))
          go UnorderedNonDuplicating q = changed-not refl refl

    -- ---- Deliver
    pub delivered-one
        : {r : Sent} {cs' : List (List ℕ)} (kind : Kind) → is_duplicating kind ≡ false → Makes (on_drop e) kind cs used n r cs'
        → Makes (on_deliver e) kind cs used n r cs'
    unfolding on_deliver on_drop delivering choose
    delivered-one kind h c last = rw h (rw h at (c last))

    pub delivered-copy
        : (kind : Kind) → is_duplicating kind ≡ true → Makes (on_deliver e) kind cs used n (record { answer = Done; used = used; len = n }) cs
    unfolding on_deliver delivering choose guard
    delivered-copy kind h last = rw h (changed-done refl refl (as_it_was laid))
