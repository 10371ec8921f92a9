-- The timers that a word holds, as an ascending list; the word that holds a list; what setting, cancelling and listing answer.
-- Assumes nothing.
use Rattle.std.specs.Prelude.{ℕ, zero, suc, ◌+◌, ◌/◌, ◌%◌, ◌^◌, leb, eqb, List, [], ◌∷◌, ◌++◌, Option, Some, None}
use Rattle.lists.specs.Lists.{choose}
use Rattle.rules.specs.Timers.{set_timer, cancel_timer, set_changes, cancel_changes}
use Rattle.link_timers.specs.declared.Timers.{Timers}
use Rattle.link_timers.specs.declared.Change.{Change}

-- The places of the ones among the d lowest binary digits of x, where the lowest of them has the place k.
unfoldable pub listed_from : ℕ → ℕ → ℕ → List ℕ
listed_from zero k x = []
listed_from (suc d) k x = choose (eqb (x % 2) 1) (k ∷ []) [] ++ listed_from d (suc k) (x / 2)

-- The bits of the word: one for each timer up to Network.
abbrev pub bits : ℕ
bits = 32

-- The timers that are set.
unfoldable pub listed : ℕ → List ℕ
listed x = listed_from bits 0 x

-- The word with ones at these places.
abbrev pub word_of : List ℕ → ℕ
word_of [] = 0
word_of (t ∷ ts) = 2 ^ t + word_of ts

abbrev pub timers_of : List ℕ → Timers
timers_of ts = record { 0 = word_of ts }

-- Whether the set changes, and the set then.
abbrev pub set_of : Timers → ℕ → Change
set_of x t = record { changed = set_changes t (listed x.0); timers = timers_of (set_timer t (listed x.0)) }

abbrev pub cancel_of : Timers → ℕ → Change
cancel_of x t = record { changed = cancel_changes t (listed x.0); timers = timers_of (cancel_timer t (listed x.0)) }

-- The first of an ascending list that is at least f.
unfoldable pub first_from : ℕ → List ℕ → Option ℕ
first_from f [] = None
first_from f (t ∷ ts) = choose (leb f t) (Some t) (first_from f ts)
