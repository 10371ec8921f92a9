-- What the two listings answer at a place. That a walk from the first place to the end gives the rules' lists is proofs/Theorems.
-- Assumes nothing.
use Rattle.std.specs.Prelude.{ℕ, zero, suc, ◌+◌, ◌-◌, ◌≤◌, ◌<◌, ◌≡◌, Bool, true, false, not, ◌||◌, Option, Some, None, List, [], ◌∷◌, length, drop, get_or, ltb, eqb}
use Rattle.lists.specs.Lists.{choose}
use Rattle.types.specs.declared.Envelope.{Envelope}
use Rattle.types.specs.declared.Entry.{Entry}
use Rattle.types.specs.declared.Kind.{Kind}
use Rattle.types.specs.declared.Kind.TheVariants.{Ordered, UnorderedDuplicating, UnorderedNonDuplicating}
use Rattle.types.specs.Order.{cmp_flow, is_equal}
use Rattle.net_network.specs.declared.Network.{Network}
use Rattle.net_network.specs.Views.{zero_entry, entry_list}
use Rattle.net_listing.specs.declared.Cursor.{Cursor}

abbrev pub start : Cursor
start = record { entry = 0; copy = 0 }

-- ---- each envelope as often as it is there
-- The list begins at the entry at, and k of its envelopes were listed.
unfoldable pub listed_from : ℕ → ℕ → List Entry → Option (Envelope × Cursor)
listed_from at k [] = None
listed_from at k (x ∷ l) = choose (ltb k x.count) (Some (x.envelope, record { entry = at; copy = k + 1 })) (listed_from (at + 1) (k - x.count) l)

unfoldable pub listed_next : Network → Cursor → Option (Envelope × Cursor)
listed_next n c = listed_from c.entry c.copy (drop c.entry (entry_list n))

-- ---- what can be delivered
-- Whether the entry x at the place i, after the entry p, is offered: on kind 0 where it is the first of all or of another flow than p.
unfoldable pub opens : Kind → ℕ → Entry → Entry → Bool
opens Ordered i p x = eqb i 0 || not (is_equal (cmp_flow p.envelope x.envelope))
opens UnorderedDuplicating i p x = true
opens UnorderedNonDuplicating i p x = true

unfoldable pub shows : Kind → List Entry → ℕ → Bool
shows k l i = opens k i (get_or l (i - 1) zero_entry) (get_or l i zero_entry)

-- No place from at on and before end is offered.
abbrev pub OffersNone : Kind → List Entry → ℕ → ℕ → Type 0
OffersNone k l at end = (j : ℕ) → at ≤ j → j < end → shows k l j ≡ false

-- The place i is the first from at on that is offered.
abbrev pub IsFirstOffered : Kind → List Entry → ℕ → ℕ → Type 0
IsFirstOffered k l at i = (at ≤ i) × (i < length l) × (shows k l i ≡ true) × OffersNone k l at i

-- The first of m places from at on that is offered.
unfoldable pub offered_from : Kind → List Entry → ℕ → ℕ → Option (Envelope × ℕ)
offered_from k l zero at = None
offered_from k l (suc m) at = choose (shows k l at) (Some ((get_or l at zero_entry).envelope, at + 1)) (offered_from k l m (at + 1))

unfoldable pub offered_next : Network → ℕ → Option (Envelope × ℕ)
offered_next n at = offered_from n.kind (entry_list n) (length (entry_list n) - at) at
