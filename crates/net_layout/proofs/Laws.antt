-- What was read back so far, and the cells that were laid out.
-- Assumes nothing.
use Prim.Native.Nat.{ℕ, ◌+◌, ◌≤◌, ◌<◌}
use native.Mathlib.Omega.{arith}
use mathlib.Core.Path.{◌≡◌, sym, ap, ap₂, ◌∙◌}
use mathlib.Core.Bool.{true}
use mathlib.Core.List.Memᴰ
use mathlib.Core.List.{List, [], ◌∷◌, ◌++◌, map}
use lib.ListN.{length, take, get_or, length-map}
use lib.Seq.{take-append_seam}
use lib.Dec.{leb}
use borrow.Author.Tests.{leb-true}
use Rattle.lists.specs.Lists.{all, pad}
use Rattle.lists.proofs.Members.{all_in, get_in}
use Rattle.lists.proofs.Places.{map_snoc, take_more, map_more, length-pad}
use Rattle.types.specs.declared.Entry.{Entry}
use Rattle.types.specs.Capacities.{most_entries, most_copies}
use Rattle.net_cells.specs.Cells.{cell_of, entry_of, zero_cell}
use Rattle.net_layout.specs.Layout.{LaidOut}

-- ---- a turn of the loop
module _ {A B : Type 0} (f : A → B) (d : A) (es : List A) (i : ℕ) (h : i < length es) where
  pub read_more
      : (g : B → A) → map g (map f (take i es)) ≡ take i es → g (f (get_or es i d)) ≡ get_or es i d
      → map g (map f (take (i + 1) es)) ≡ take (i + 1) es
  read_more g e q =
      ap (map g) (map_more f d es i h) ∙ map_snoc g (map f (take i es)) (f (get_or es i d))
      ∙ ap₂ (λ (l : List A) (x : A). l ++ x ∷ []) e q ∙ sym (take_more d es i h)

-- the count of a used cell can be read
pub count_fits
    : (l : List (List ℕ)) (i : ℕ) → i < length l → all (λ x. leb x.count most_copies) (map entry_of l) ≡ true
    → get_or (get_or l i []) 3 0 ≤ most_copies
unfolding entry_of
count_fits l i h e =
    let m = all_in (λ x. leb x.count most_copies) (map entry_of l) e (entry_of (get_or l i [])) (Memᴰ.map entry_of (get_in l i [] h)) in
    leb-true (get_or (get_or l i []) 3 0) most_copies m

-- ---- the cells that were laid out
module _ {l : List Entry} {cs : List (List ℕ)} (out : LaidOut l cs) (few : length l ≤ most_entries) where
  size : length (map cell_of l) ≡ length l
  size = length-map l cell_of

  pub out-room : length cs ≡ most_entries
  out-room = let v = size in ap length out.cells ∙ length-pad most_entries zero_cell (map cell_of l) (omega arith)

  pub out-used : take (length l) cs ≡ map cell_of l
  unfolding pad
  out-used =
      ap₂ (λ (n : ℕ) (m : List (List ℕ)). take n m) (sym size) out.cells ∙ take-append_seam (map cell_of l) _

  pub out-entries : map entry_of (take (length l) cs) ≡ l
  out-entries = ap (map entry_of) out-used ∙ out.back
