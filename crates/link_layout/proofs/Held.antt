-- The rows of a durable part hold it, and they fit.
-- Assumes nothing.
use Prim.Native.Nat.{ℕ, ◌+◌, ◌-◌, ◌≤◌, ◌<◌}
use native.Mathlib.Omega.{arith}
use mathlib.Core.Path.{◌≡◌, refl, ap, ◌∙◌}
use mathlib.Core.List.{List, [], ◌∷◌, map}
use lib.ListN.{length, take, get_or, length-map, get_or-eq_default}
use lib.Seq.{take_at}
use Rattle.lists.specs.Lists.{pad}
use Rattle.lists.proofs.Places.{length-pad, get_or-pad}
use Rattle.types.specs.Capacities.{most_pending, most_actors}
use Rattle.types.specs.declared.Number.{Number}
use Rattle.types.specs.declared.Pending.{Pending}
use Rattle.std.specs.Prelude.{Option, Some, None}
use Rattle.rules.specs.Link as rules
use Rattle.link_rows.specs.Rows.{row_size, pending_in, number_in, storage_in, durable_in, Sendable, HeadLaid}
use Rattle.link_layout.specs.Rows.{record_of, no_record, records_of, word_of, saves_of, value_of, row_with}

-- ---- read again
records-back : (l : List Pending) → map pending_in (map record_of l) ≡ l
unfolding pending_in
records-back [] = refl
records-back (q ∷ l) = ap (λ (r : List Pending). q ∷ r) (records-back l)

numbers-back : (l : List Number) → map number_in (map word_of l) ≡ l
numbers-back [] = refl
numbers-back (n ∷ l) = ap (λ (r : List Number). n ∷ r) (numbers-back l)

storage-back : (s : Option ℕ) → storage_in (saves_of s) (value_of s) ≡ s
unfolding storage_in
storage-back None = refl
storage-back (Some v) = refl

-- Of an array that holds a list, as many places as the list has elements.
module _ {A B C : Type 0} (f : A → B) (g : B → C) (n : ℕ) (z : B) where
  of-list : (l : List A) → map g (take (length l) (pad n z (map f l))) ≡ map g (map f l)
  unfolding pad
  of-list l = ap (map g) (take_at (map f l) _ (length l) (length-map l f))

module _ (d : rules.Durable) (five six seven : ℕ) where
  pub rows-view : durable_in (row_with d five six seven) (records_of d) ≡ d
  unfolding durable_in
  rows-view =
      let p = of-list record_of pending_in most_pending no_record d.pending ∙ records-back d.pending in
      let t = of-list word_of number_in (row_size - 8) 0 d.taken ∙ numbers-back d.taken in
      let s = storage-back d.inner in
      λ j. record { next = d.next; pending = p j; taken = t j; inner = s j }

-- ---- laid out
pub records-room : (d : rules.Durable) → length d.pending ≤ most_pending → length (records_of d) ≡ most_pending
records-room d h = let a = length-map d.pending record_of in length-pad most_pending no_record (map record_of d.pending) (omega arith)

module _ (d : rules.Durable) (five six seven : ℕ) (h : length d.taken ≤ most_actors) where
  pub row_room : length (row_with d five six seven) ≡ row_size
  row_room = let a = length-map d.taken word_of in let b = length-pad (row_size - 8) 0 (map word_of d.taken) (omega arith) in omega arith

  -- Past the numbers last taken all is zero.
  pub row-rest : (i : ℕ) → length d.taken ≤ i → get_or (row_with d five six seven) (8 + i) 0 ≡ 0
  row-rest i k =
      let a = length-map d.taken word_of in
      let e : 8 + i ≡ ℕ.suc (ℕ.suc (ℕ.suc (ℕ.suc (ℕ.suc (ℕ.suc (ℕ.suc (ℕ.suc i))))))) = omega arith in
      rw e (get_or-pad 0 (row_size - 8) i (map word_of d.taken) ∙ get_or-eq_default (map word_of d.taken) 0 {n = i} (omega arith))

saves-small : (s : Option ℕ) → saves_of s ≤ 1
saves-small None = omega arith
saves-small (Some v) = omega arith

pub row-head : (d : rules.Durable) (five six seven : ℕ) (p : List (List ℕ)) → Sendable p (length d.pending) → value_of d.inner < 4294967296
    → HeadLaid (row_with d five six seven) p
row-head d five six seven p fit h = record { sendable = fit; saves = saves-small d.inner; value = h }
