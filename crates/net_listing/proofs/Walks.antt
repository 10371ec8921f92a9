-- From a place on, each listing's walk gives what is left of its list: a step tells the first of it, and leaves the place of the rest.
-- Assumes nothing.
use Prim.Native.Nat.{ℕ, zero, suc, ◌+◌, ◌-◌, ◌≤◌, ◌<◌}
use native.Mathlib.Omega.{arith}
use native.Mathlib.Numerals.{add-one}
use mathlib.Core.Path.{◌≡◌, refl, sym, ap, ◌∙◌}
use mathlib.Core.Bool.{Bool, true, false}
use Rattle.std.specs.Prelude.{Some, None}
use mathlib.Core.List.{List, [], ◌∷◌, ◌++◌}
use lib.ListN.{length, drop, get_or, replicate, length-append, length-replicate, get_or-append, get_or-replicate}
use lib.Seq.{drop-cons, drop-nil, drop-drop, drop-append-add}
use borrow.Author.Tests.{lt-ltb, le-ltb}
use Rattle.lists.specs.Lists.{choose}
use Rattle.types.specs.declared.Envelope.{Envelope}
use Rattle.types.specs.declared.Entry.{Entry}
use Rattle.types.specs.declared.Kind.{Kind}
use Rattle.rules.specs.Network.{listing}
use Rattle.net_network.specs.declared.Network.{Network}
use Rattle.net_network.specs.Views.{zero_entry, entry_list}
use Rattle.net_listing.specs.declared.Cursor.{Cursor}
use Rattle.net_listing.specs.Walk.{Walk, over, on}
use Rattle.net_listing.specs.Listing.{listed_from, listed_next, shows, offered_from, offered_next}

-- Two places at which the same is told begin the same walk.
walk_same : {C A : Type 0} {ends : C → Type 0} {tells : C → A → C → Type 0} {c d : C} {l : List A}
    → (ends d → ends c) → ((a : A) (b : C) → tells d a b → tells c a b) → Walk ends tells d l → Walk ends tells c l
walk_same f g (over e) = over (f e)
walk_same f g (on t w) = on (g _ _ t) w

-- ---- the full listing
abbrev pub Listed : Network → Cursor → List Envelope → Type 0
Listed n = Walk (λ (c : Cursor). listed_next n c ≡ None) (λ (c : Cursor) (e : Envelope) (d : Cursor). listed_next n c ≡ Some (e, d))

drop_past : {A : Type 0} (m k : ℕ) (a : A) (l : List A) → m ≤ k → drop k (replicate m a ++ l) ≡ drop (k - m) l
drop_past {A = A} m k a l h =
    let e : length (replicate m a) + (k - m) ≡ k = omega (arith, length-replicate m a) in
    ap (λ (j : ℕ). drop j (replicate m a ++ l)) (sym e) ∙ drop-append-add (replicate m a) l (k - m)

drop-copy : {A : Type 0} (m k : ℕ) (a : A) (l : List A) → k < m → drop k (replicate m a ++ l) ≡ a ∷ drop (k + 1) (replicate m a ++ l)
drop-copy {A = A} m k a l h =
    let i : k < length (replicate m a) = omega (arith, length-replicate m a) in
    drop-cons (replicate m a ++ l) k a (omega (arith, length-append (replicate m a) l, length-replicate m a))
    ∙ rw (get_or-append (replicate m a) l a k i, get_or-replicate m k a a h, add-one k)

pub drop_more : {A : Type 0} (l m : List A) (at : ℕ) (x : A) → drop at l ≡ x ∷ m → drop (at + 1) l ≡ m
drop_more {A = A} l m at x e = sym (drop-drop 1 at l) ∙ ap (λ (r : List A). drop 1 r) e

module _ (n : Network) where
  abbrev cur : ℕ → ℕ → Cursor
  cur at k = record { entry = at; copy = k }

  next-is : (at k : ℕ) (l : List Entry) → drop at (entry_list n) ≡ l → listed_next n (cur at k) ≡ listed_from at k l
  unfolding listed_next
  next-is at k l e = ap (listed_from at k) e

  -- at an entry, with the walks from the next one in hand
  entry-walk : (x : Entry) (l : List Entry) (at : ℕ) → drop at (entry_list n) ≡ x ∷ l → ((j : ℕ) → Listed n (cur (at + 1) j) (drop j (listing l)))
      → (m k : ℕ) → x.count - k ≡ m → Listed n (cur at k) (drop k (listing (x ∷ l)))
  unfolding listing listed_from choose
  entry-walk x l at e f zero k h =
      let s : listed_next n (cur at k) ≡ listed_next n (cur (at + 1) (k - x.count))
      = next-is at k (x ∷ l) e
      ∙ rw (le-ltb k x.count (omega arith)) (sym (next-is (at + 1) (k - x.count) l (drop_more (entry_list n) l at x e))) in
      rw (drop_past x.count k x.envelope (listing l) (omega arith))
      (walk_same (λ z. s ∙ z) (λ a b z. s ∙ z) (f (k - x.count)))
  entry-walk x l at e f (suc m) k h =
      rw (drop-copy x.count k x.envelope (listing l) (omega arith))
      (on {d = cur at (k + 1)} {a = x.envelope} (next-is at k (x ∷ l) e ∙ rw (lt-ltb k x.count (omega arith)))
      (entry-walk x l at e f m (k + 1) (omega arith)))

  pub listed-left : (l : List Entry) (at k : ℕ) → drop at (entry_list n) ≡ l → Listed n (cur at k) (drop k (listing l))
  unfolding listing listed_from
  listed-left [] at k e = rw (drop-nil k) (over (next-is at k [] e))
  listed-left (x ∷ l) at k e = entry-walk x l at e (λ j. listed-left l (at + 1) j (drop_more (entry_list n) l at x e)) (x.count - k) k refl

-- ---- the deliverable listing
abbrev pub Offered : Network → ℕ → List Envelope → Type 0
Offered n = Walk (λ (i : ℕ). offered_next n i ≡ None) (λ (i : ℕ) (e : Envelope) (j : ℕ). offered_next n i ≡ Some (e, j))

-- The envelopes at those of m places from at on that are shown.
unfoldable pub shown : Kind → List Entry → ℕ → ℕ → List Envelope
shown k l zero at = []
shown k l (suc m) at = choose (shows k l at) ((get_or l at zero_entry).envelope ∷ shown k l m (at + 1)) (shown k l m (at + 1))

module _ (n : Network) where
  abbrev L : List Entry
  L = entry_list n

  pub offered-left : (m at : ℕ) → length L - at ≡ m → Offered n at (shown n.kind L m at)
  unfolding offered_next offered_from shown choose
  offered-left zero at h = over {c = at} (rw h)
  offered-left (suc m) at h = go (shows n.kind L at) refl (offered-left m (at + 1) (omega arith))
    where
      next : (b : Bool) → shows n.kind L at ≡ b → offered_next n at
          ≡ choose b (Some ((get_or L at zero_entry).envelope, at + 1)) (offered_next n (at + 1))
      next b e = let k : length L - (at + 1) ≡ m = omega arith in rw (h, k, e)

      go : (b : Bool) → shows n.kind L at ≡ b → Offered n (at + 1) (shown n.kind L m (at + 1))
          → Offered n at (choose b ((get_or L at zero_entry).envelope ∷ shown n.kind L m (at + 1)) (shown n.kind L m (at + 1)))
      go true e w = on (next true e) w
      go false e w = let s = next false e in walk_same (λ z. s ∙ z) (λ a b z. s ∙ z) w
