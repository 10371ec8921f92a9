-- A place that tells nothing leaves the answer to the next one. So the first place that tells something gives the answer, and where none does there is none.
-- Assumes nothing.
use Rattle.std.proofs.Common.{◌≡◌, ℕ, zero, suc, ◌+◌, ◌-◌, ◌≤◌, ◌<◌, min, true, Option, Some, None, List, length, take, drop, get_or, refl, sym, ◌∙◌, arith, add-one, drop-cons}
use native.Mathlib.Decide.{dec_lt}
use lib.ListN.{drop_of_length-le}
use lib.Seq.{take_all}
use borrow.Author.Tests.{lt-ltb, le-ltb}
use Rattle.lists.specs.Lists.{choose}
use Rattle.types.specs.declared.Envelope.{Envelope}
use Rattle.types.specs.declared.Entry.{Entry}
use Rattle.types.specs.declared.Kind.{Kind}
use Rattle.net_network.specs.Views.{zero_entry}
use Rattle.net_listing.specs.Listing.{listed_from, shows, OffersNone, IsFirstOffered, offered_from}

-- A count above the length names the whole list.
pub take-min : {A : Type 0} (l : List A) (n : ℕ) → take (min n (length l)) l ≡ take n l
take-min l n = elim (dec_lt (length l) n) [
  | yes h ↦ take_all (min n (length l)) l (omega arith) ∙ sym (take_all n l (omega arith))
  | no h ↦ let e : min n (length l) ≡ n = omega arith in rw e
]

-- ---- the full listing
-- The entries from the place `at` on, at the one with i before it.
module _ (es : List Entry) (at i k : ℕ) where
  abbrev here : Entry
  here = get_or es i zero_entry

  pub listed-found : i < length es → k < here.count → listed_from (at + i) k (drop i es) ≡ Some (here.envelope, record { entry = at + i; copy = k + 1 })
  unfolding listed_from choose
  listed-found h c = rw (drop-cons es i zero_entry h, lt-ltb k here.count c)

  pub listed-turn : i < length es → here.count ≤ k → listed_from (at + i) k (drop i es) ≡ listed_from (at + (i + 1)) (k - here.count) (drop (i + 1) es)
  unfolding listed_from choose
  listed-turn h c =
      let e : at + (i + 1) ≡ at + i + 1 = omega arith in
      rw (e, drop-cons es i zero_entry h, le-ltb k here.count c, add-one i)

pub listed-over : (es : List Entry) (at i k : ℕ) → length es ≤ i → listed_from at k (drop i es) ≡ None
unfolding listed_from
listed-over es at i k h = rw (drop_of_length-le es {i = i} h)

-- ---- the deliverable listing
module _ (kind : Kind) (es : List Entry) where
  none_of : (m at : ℕ) → OffersNone kind es at (at + m) → offered_from kind es m at ≡ None
  unfolding offered_from choose
  none_of zero at f = refl
  none_of (suc m) at f = rw (f at (omega arith) (omega arith)) (none_of m (at + 1) (λ k g h. f k (omega arith) (omega arith)))

  pub offered-none : (at : ℕ) → OffersNone kind es at (length es) → offered_from kind es (length es - at) at ≡ None
  offered-none at f = none_of (length es - at) at (λ k g h. f k g (omega arith))

  module _ (i : ℕ) (shown : shows kind es i ≡ true) where
    abbrev offer : Option (Envelope × ℕ)
    offer = Some ((get_or es i zero_entry).envelope, i + 1)

    -- the first of the places, or one after it
    first_of : (m at : ℕ) → at ≤ i → i < at + m → OffersNone kind es at i → offered_from kind es m at ≡ offer
    unfolding offered_from choose
    first_of zero at a b f = absurd (omega arith)
    first_of (suc m) at a b f = elim (dec_lt at i) [
      | yes h ↦ rw (f at (omega arith) h) (first_of m (at + 1) (omega arith) (omega arith) (λ k g l. f k (omega arith) l))
      | no h ↦ let e : at ≡ i = omega arith in rw (e, shown)
    ]

  pub offered-first : (at i : ℕ) → IsFirstOffered kind es at i → offered_from kind es (length es - at) at ≡ Some ((get_or es i zero_entry).envelope, i + 1)
  offered-first at i h = first_of i h.2 (length es - at) at h.0 (omega arith) h.3
