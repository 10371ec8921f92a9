-- The lists that the structs hold, the structs that hold the lists, and the whole tests of a durable part and of what is stored.
-- Assumes nothing.
use Rattle.std.specs.Prelude.{ℕ, Bool, true, false, ◌||◌, [], List, ◌∷◌, length, take, drop, leb, eqb, Option, Some, None, is_none}
use Rattle.lists.specs.Lists.{choose, all, every, pad}
use Rattle.types.specs.Capacities.{most_pending, most_actors}
use Rattle.types.specs.declared.Number.{Number}
use Rattle.types.specs.declared.Pending.{Pending}
use Rattle.rules.specs.Outcome.{base}
use Rattle.rules.specs.Link as rules
use Rattle.rules.specs.WellFormed.{durable_ok, stored_ok}
use Rattle.link_durable.specs.declared.Filled.{Filled}
use Rattle.link_durable.specs.declared.Durable.{Durable}
use Rattle.link_durable.specs.declared.Stored.{Stored}
use Rattle.link_durable.specs.declared.Link.{Link}

-- ---- an array of which the first places are used
abbrev pub in_use : {A : Type 0} {n : ℕ} → Filled A n → List A
in_use f = take f.used f.places

-- The struct that holds a list, with z in the free places.
abbrev pub filled_of : {A : Type 0} (n : ℕ) → A → List A → Filled A n
filled_of n z l = record { places = pad n z l; used = length l }

-- The count fits, and the free places pass the test.
unfoldable pub laid : {A : Type 0} {n : ℕ} → (A → Bool) → Filled A n → Bool
laid {n = n} p f = every (leb f.used n ∷ all p (drop f.used f.places) ∷ [])

-- ---- messages sent and not acked
abbrev pub Pendings : Type 0
Pendings = Filled Pending most_pending

abbrev pub zero_pending : Pending
zero_pending = record { number = record { 0 = 0 }; dst = record { 0 = 0 }; payload = record { 0 = 0 } }

abbrev pub pending_list : Pendings → List Pending
pending_list p = in_use p

abbrev pub pendings_of : List Pending → Pendings
pendings_of l = filled_of most_pending zero_pending l

-- ---- the numbers last taken
abbrev pub Taken : Type 0
Taken = Filled Number most_actors

abbrev pub taken_list : Taken → List Number
taken_list t = in_use t

abbrev pub taken_as : List Number → Taken
taken_as l = filled_of most_actors rules.untaken l

-- ---- the durable part, and what is stored: all zero where nothing is
abbrev pub durable_view : Durable → rules.Durable
durable_view d = record { next = d.next; pending = pending_list d.pending; taken = taken_list d.taken; inner = d.inner }

abbrev pub durable_as : rules.Durable → Durable
durable_as d = record { next = d.next; pending = pendings_of d.pending; taken = taken_as d.taken; inner = d.inner }

unfoldable pub stored_view : Stored → Option rules.Durable
stored_view s = choose s.some (Some (durable_view s.durable)) None

abbrev pub zero_durable : rules.Durable
zero_durable = record { next = record { 0 = 0 }; pending = []; taken = []; inner = None }

abbrev pub stored_as : Option rules.Durable → Stored
stored_as None = record { some = false; durable = durable_as zero_durable }
stored_as (Some d) = record { some = true; durable = durable_as d }

-- ---- laid out: the counts fit, and the places that are not used are zero
unfoldable pub blank_pending : Pending → Bool
blank_pending q = every (eqb q.number.0 0 ∷ eqb q.dst.0 0 ∷ eqb q.payload.0 0 ∷ [])

unfoldable pub blank_number : Number → Bool
blank_number n = eqb n.0 0

unfoldable pub pendings_laid : Pendings → Bool
pendings_laid p = laid blank_pending p

unfoldable pub taken_laid : Taken → Bool
taken_laid t = laid blank_number t

unfoldable pub durable_laid : Durable → Bool
durable_laid d = every (pendings_laid d.pending ∷ taken_laid d.taken ∷ [])

-- Nothing saved.
unfoldable pub unsaved : Option ℕ → Bool
unsaved s = is_none s

unfoldable pub blank_durable : Durable → Bool
blank_durable d = every (eqb d.next.0 0 ∷ eqb d.pending.used 0 ∷ eqb d.taken.used 0 ∷ unsaved d.inner ∷ [])

unfoldable pub stored_laid : Stored → Bool
stored_laid s = every (durable_laid s.durable ∷ (s.some || blank_durable s.durable) ∷ [])

-- ---- laid out and well formed, with k actors
unfoldable pub durable_fine : ℕ → Durable → Bool
durable_fine k d = every (durable_laid d ∷ durable_ok base.limits k (durable_view d) ∷ [])

unfoldable pub stored_fine : ℕ → Stored → Bool
stored_fine k s = every (stored_laid s ∷ stored_ok base.limits k (stored_view s) ∷ [])

-- ---- the live part
abbrev pub link_view : Link → rules.Link
link_view l = record { durable = durable_view l.durable; state = l.state }

abbrev pub link_as : rules.Link → Link
link_as l = record { durable = durable_as l.durable; state = l.state }
