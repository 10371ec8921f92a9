-- How far the arrays of a durable part are filled, and what its rows hold.
-- Assumes nothing.
use Prim.Native.Nat.{ℕ, zero, suc, ◌+◌, ◌-◌, ◌≤◌, ◌<◌}
use native.Mathlib.Omega.{arith}
use mathlib.Core.Path.{◌≡◌, refl, sym, ap, ◌∙◌}
use mathlib.Core.Bool.{true, not}
use lib.Dec.{eqb}
use borrow.Author.Tests.{ne_eqb}
use Rattle.std.specs.Bool.{then_some}
use mathlib.Core.List.{List, ◌∷◌, map}
use lib.ListN.{length, take, drop, get_or, set, length-map, length-take}
use lib.Seq.{length-take-le, take_all}
use Rattle.link_durable.specs.declared.Filled.{Filled}
use Rattle.lists.specs.Lists.{pad}
use Rattle.lists.proofs.Places.{fill_more, length-pad}
use Rattle.types.specs.declared.Number.{Number}
use Rattle.types.specs.Capacities.{most_pending, most_actors}
use Rattle.std.specs.Prelude.{Option, Some, None}
use Rattle.link_durable.specs.declared.Durable.{Durable}
use Rattle.link_durable.specs.Views.{filled_of, Pendings, Taken, pendings_of, taken_list, taken_as, durable_view, durable_as, durable_laid}
use Rattle.link_durable.proofs.Containers.{counts}
use Rattle.link_rows.specs.Rows.{row_size, pending_in, number_in, storage_in, durable_in}
use Rattle.link_layout.specs.Rows.{word_of, taken_of, saves_of, value_of, row_of}

-- One number more, past the first eight places.
pub fill-after : (es : List Number) (d : Number) (i : ℕ) (r : List ℕ) → i < most_actors → i < length es → r ≡ taken_of (take i es)
    → set r (8 + i) (get_or es i d).0 ≡ taken_of (take (i + 1) es)
fill-after es d i r h k q =
    let e : 8 + i ≡ suc (suc (suc (suc (suc (suc (suc (suc i))))))) = omega arith in
    rw (q, e) (ap (λ (l : List ℕ). 0 ∷ 0 ∷ 0 ∷ 0 ∷ 0 ∷ 0 ∷ 0 ∷ 0 ∷ l)
    (fill_more word_of d es i k (row_size - 8) 0 _ _ (omega arith) refl refl))

pub filled : {A B : Type 0} (f : A → B) (n : ℕ) (z : B) (es : List A) (i : ℕ) → i ≤ n → length (pad n z (map f (take i es))) ≡ n
filled f n z es i h = let a = length-map (take i es) f in let b = length-take i es in length-pad n z (map f (take i es)) (omega arith)

-- ---- what is read off a slice, once all of it was read
pub read-whole : {A B : Type 0} (n : ℕ) (z : B) (r : A → B) (items : List A) (places : List B) (i : ℕ) → length items ≤ i
    → places ≡ pad n z (map r (take i items)) → ◌≡◌ {A = Filled B n} (record { places = places; used = length items }) (filled_of n z (map r items))
read-whole {A = A} n z r items places i h e =
    let p = e ∙ ap (λ (l : List A). pad n z (map r l)) (take_all i items h) in
    let u = sym (length-map items r) in
    λ j. record { places = p j; used = u j }

-- ---- what is saved
pub saved : (n v : ℕ) → then_some (not (eqb n 0)) v ≡ storage_in n v
unfolding storage_in
saved zero v = refl
saved (suc n) v = rw (ne_eqb (suc n) 0 (λ e. omega arith))

-- ---- the row
module _ (d : Durable) (n : length d.pending.places ≡ most_pending) (m : length d.taken.places ≡ most_actors) (laid : durable_laid d ≡ true)
    (r : List ℕ) (e : r ≡ taken_of (taken_list d.taken)) where
  abbrev numbers : List ℕ
  numbers = pad (row_size - 8) 0 (map word_of (taken_list d.taken))

  abbrev begun : List ℕ
  begun = set (set (set r 0 d.next.0) 1 d.pending.used) 4 d.taken.used

  -- The words up to place 4, of a storage that the struct holds.
  begun-is : (s : Option ℕ) → d.inner ≡ s
      → d.next.0 ∷ d.pending.used ∷ saves_of s ∷ value_of s ∷ d.taken.used ∷ 0 ∷ 0 ∷ 0 ∷ numbers
      ≡ row_of (durable_view d)
  begun-is s f =
      let h = counts d laid in
      let e1 = sym (length-take-le d.pending.used d.pending.places (omega arith)) in
      let e4 = sym (length-take-le d.taken.used d.taken.places (omega arith)) in
      λ j. d.next.0 ∷ e1 j ∷ saves_of (sym f j) ∷ value_of (sym f j) ∷ e4 j ∷ 0 ∷ 0 ∷ 0 ∷ numbers

  pub row-nothing : d.inner ≡ None → (begun ≡ row_of (durable_view d)) × (value_of d.inner < 4294967296)
  row-nothing f =
      (ap (λ (l : List ℕ). set (set (set l 0 d.next.0) 1 d.pending.used) 4 d.taken.used) e ∙ begun-is None f, rw f (omega arith))

  pub row-value : (v : ℕ) → d.inner ≡ Some v → v < 4294967296
      → (set (set begun 2 1) 3 v ≡ row_of (durable_view d)) × (value_of d.inner < 4294967296)
  row-value v f h =
      (ap (λ (l : List ℕ). set (set (set (set (set l 0 d.next.0) 1 d.pending.used) 4 d.taken.used) 2 1) 3 v) e ∙ begun-is (Some v) f, rw f h)

-- ---- the durable part that is read off
pub durable-read : (w : List ℕ) (p : List (List ℕ)) (ps : Pendings) (ts : Taken) (s : Option ℕ) → ps ≡ pendings_of (map pending_in (take (get_or w 1 0) p))
    → ts ≡ taken_as (map number_in (take (get_or w 4 0) (drop 8 w))) → s ≡ storage_in (get_or w 2 0) (get_or w 3 0)
    → ◌≡◌ {A = Durable} (record { next = record { 0 = get_or w 0 0 }; pending = ps; taken = ts; inner = s }) (durable_as (durable_in w p))
unfolding durable_in
durable-read w p ps ts s a b c = λ j. record { next = record { 0 = get_or w 0 0 }; pending = a j; taken = b j; inner = c j }
