-- A walk from the first place to the end gives the rules' lists: all envelopes, each as often as it is there, and those that can be delivered.
-- Assumes nothing.
use Prim.Native.Nat.{ℕ, ◌+◌, ◌-◌, ◌≤◌}
use native.Mathlib.Omega.{arith}
use mathlib.Core.Path.{◌≡◌, refl, sym, ap, ◌∙◌, subst}
use mathlib.Core.Bool.{true}
use mathlib.Core.List.{List, [], ◌∷◌, map}
use lib.ListN.{length, drop, get_or}
use lib.Seq.{get_or-drop}
use borrow.Author.Tests.{ne_eqb}
use Rattle.lists.specs.Lists.{choose, chain}
use Rattle.lists.proofs.Chains.{is-chain}
use Rattle.types.specs.declared.Envelope.{Envelope}
use Rattle.types.specs.declared.Entry.{Entry}
use Rattle.types.specs.declared.Kind.{Kind}
use Rattle.types.specs.declared.Kind.TheVariants.{Ordered, UnorderedDuplicating, UnorderedNonDuplicating}
use Rattle.rules.specs.Network.{listing, deliverable, deliverables, fronts}
use Rattle.rules.specs.Outcome.{Room}
use Rattle.rules.specs.WellFormed.{in_order, net_ok}
use Rattle.rules.proofs.FormedNetwork.{net-is}
use Rattle.net_network.specs.declared.Network.{Network}
use Rattle.net_network.specs.Views.{zero_entry, entry_list, net_view}
use Rattle.net_listing.specs.declared.Cursor.{Cursor}
use Rattle.net_listing.specs.Walk.{Walk, over, on}
use Rattle.net_listing.specs.Listing.{start, opens, shows}
use Rattle.net_listing.proofs.Fronts.{breaks, fronts-are}
use Rattle.net_listing.proofs.Walks.{Listed, Offered, shown, drop_more, listed-left, offered-left}

-- ---- the full listing
-- What is left from a cursor on, whatever it holds.
pub listed-rest : (n : Network) (c : Cursor) → Listed n c (drop c.copy (listing (drop c.entry (entry_list n))))
listed-rest n c = listed-left n (drop c.entry (entry_list n)) c.entry c.copy refl

pub listed-all : (n : Network) → Listed n start (listing (entry_list n))
listed-all n = listed-rest n start

-- ---- what is shown, entry by entry, p before the first
abbrev envelopes : List Entry → List Envelope
envelopes l = map (λ (x : Entry). x.envelope) l

runs : Kind → ℕ → Entry → List Entry → List Envelope
runs k at p [] = []
runs k at p (x ∷ l) = choose (opens k at p x) (x.envelope ∷ runs k (at + 1) x l) (runs k (at + 1) x l)

shown-runs : (k : Kind) (all l : List Entry) (at : ℕ) → drop at all ≡ l → shown k all (length l) at ≡ runs k at (get_or all (at - 1) zero_entry) l
unfolding shown shows runs
shown-runs k all [] at e = refl
shown-runs k all (x ∷ l) at e =
    let z : at ≡ at + 0 = omega arith in
    let b : at + 1 - 1 ≡ at = omega arith in
    let g : get_or all at zero_entry ≡ x
    = ap (λ (j : ℕ). get_or all j zero_entry) z ∙ sym (get_or-drop at all 0 zero_entry) ∙ ap (λ (r : List Entry). get_or r 0 zero_entry) e in
    let r : shown k all (length l) (at + 1) ≡ runs k (at + 1) x l
    = shown-runs k all l (at + 1) (drop_more all l at x e) ∙ ap (λ (p : Entry). runs k (at + 1) p l) (ap (λ (j : ℕ). get_or all j zero_entry) b ∙ g) in
    rw (g, r)

runs-all : (k : Kind) → ((i : ℕ) (p x : Entry) → opens k i p x ≡ true) → (at : ℕ) (p : Entry) (l : List Entry) → runs k at p l ≡ envelopes l
unfolding runs choose
runs-all k f at p [] = refl
runs-all k f at p (x ∷ l) = rw (f at p x) (ap (λ (r : List Envelope). x.envelope ∷ r) (runs-all k f (at + 1) x l))

runs-breaks : (at : ℕ) (p : Entry) (l : List Entry) → 1 ≤ at → runs Ordered at p l ≡ breaks p l
unfolding runs breaks opens
runs-breaks at p [] h = refl
runs-breaks at p (x ∷ l) h =
    let z : at ≡ 0 → ⊥ = λ e. omega arith in
    rw (ne_eqb at 0 z, runs-breaks (at + 1) x l (omega arith))

shown-is : (k : Kind) (l : List Entry) → chain (in_order k) l ≡ true → shown k l (length l) 0 ≡ deliverable k (envelopes l)
unfolding deliverable opens runs fronts choose
shown-is Ordered [] h = shown-runs Ordered [] [] 0 refl
shown-is Ordered (x ∷ l) h =
    shown-runs Ordered (x ∷ l) (x ∷ l) 0 refl ∙ ap (λ (r : List Envelope). x.envelope ∷ r) (runs-breaks 1 x l (omega arith))
    ∙ sym (fronts-are x l h)
shown-is UnorderedDuplicating l h = shown-runs UnorderedDuplicating l l 0 refl ∙ runs-all UnorderedDuplicating (λ i p x. refl) 0 _ l
shown-is UnorderedNonDuplicating l h = shown-runs UnorderedNonDuplicating l l 0 refl ∙ runs-all UnorderedNonDuplicating (λ i p x. refl) 0 _ l

-- ---- the deliverable listing, in canonical order
pub offered-all : (n : Network) → chain (in_order n.kind) (entry_list n) ≡ true → Offered n 0 (deliverables (net_view n))
unfolding deliverables
offered-all n h = rw (← shown-is n.kind (entry_list n) h) (offered-left n (length (entry_list n)) 0 (omega arith))

pub formed-offered : (c : Room) (k : ℕ) (n : Network) → net_ok c k (net_view n) ≡ true → Offered n 0 (deliverables (net_view n))
formed-offered c k n h = offered-all n (is-chain (in_order n.kind) (entry_list n) (net-is c k (net_view n) h).order)

-- ---- from a place there is one walk
module _ {C A : Type 0} (ends : C → Type 0) (tells : C → A → C → Type 0)
    (no : (c d : C) (a : A) → ends c → tells c a d → ⊥)
    (one : (c d e : C) (a b : A) → tells c a d → tells c b e → (a ≡ b) × (d ≡ e)) where
  walk-one : (c : C) (l m : List A) → Walk ends tells c l → Walk ends tells c m → l ≡ m
  walk-one c [] [] (over e) (over f) = refl
  walk-one c [] (b ∷ m) (over e) (on u w) = absurd (no _ _ _ e u)
  walk-one c (a ∷ l) [] (on t v) (over f) = absurd (no _ _ _ f t)
  walk-one c (a ∷ l) (b ∷ m) (on {d = d} t v) (on {d = e} u w) =
      let z = one c d e a b t u in
      λ i. z.0 i ∷ walk-one d l m v (subst (λ (q : C). Walk ends tells q m) (sym z.1) w) i

pub listed-one : (n : Network) (c : Cursor) (l m : List Envelope) → Listed n c l → Listed n c m → l ≡ m
listed-one n c l m v w = walk-one _ _
    (λ c d a e t. let z : ◌≡◌ {A = ℕ} 0 1 = cc in omega arith)
    (λ c d e a b t u. let z : ◌≡◌ {A = Envelope × Cursor} (a, d) (b, e) = cc in (ap (λ p. p.0) z, ap (λ p. p.1) z)) c l m v w

pub offered-one : (n : Network) (i : ℕ) (l m : List Envelope) → Offered n i l → Offered n i m → l ≡ m
offered-one n i l m v w = walk-one _ _
    (λ c d a e t. let z : ◌≡◌ {A = ℕ} 0 1 = cc in omega arith)
    (λ c d e a b t u. let z : ◌≡◌ {A = Envelope × ℕ} (a, d) (b, e) = cc in (ap (λ p. p.0) z, ap (λ p. p.1) z)) i l m v w
