-- Cells that hold entries: what a change of the cells is to the entries.
-- Assumes nothing.
use Prim.Native.Nat.{ℕ, zero, suc, ◌+◌, ◌*◌, ◌-◌, ◌≤◌, ◌<◌}
use native.Mathlib.Nat.{not-suc-le-zero, le_of_suc-le-suc}
use native.Mathlib.Omega.{arith}
use mathlib.Core.Path.{◌≡◌, refl, sym, ap, ap₂, ◌∙◌, subst}
use mathlib.Core.Bool.{Bool, true, false}
use mathlib.Core.List.{List, [], ◌∷◌, map}
use lib.ListN.{length, take, get_or, set, length-set, length-map}
use lib.Seq.{get_or-take, length-take-le, take-set-lt}
use lib.Dec.{leb}
use borrow.Author.Tests.{le-leb, lt-leb}
use Rattle.lists.specs.Lists.{choose, all, lead, ins, del}
use Rattle.lists.proofs.Places.{length-ins, lead-le, map-del, map_get, map-set}
use Rattle.lists.proofs.Sorted.{All, all-at}
use Rattle.rules.proofs.FormedNetwork.{len-most}
use Rattle.types.specs.declared.Entry.{Entry}
use Rattle.types.specs.declared.Kind.{Kind}
use Rattle.types.specs.declared.Kind.TheVariants.{UnorderedNonDuplicating}
use Rattle.std.specs.Prelude.{Option}
use Rattle.answers.specs.Answers.{Answer}
use Rattle.answers.specs.Answers.{Done, NetworkFull}
use Rattle.answers.specs.Answers.{answer_of}
use Rattle.types.specs.Capacities.{most_copies}
use Rattle.rules.specs.Outcome.{Outcome, done, refused, guard, Room}
use Rattle.rules.specs.Network.{Net, single, again, lowered, fits, len}
use Rattle.net_cells.specs.Cells.{zero_entry, cell_of, entry_of}
use Rattle.rows.specs.Moves.{Moved}
use Rattle.net_slots.proofs.Tests.{all-ins, all_set}
use Rattle.net_cells.proofs.Laws.{Narrow, back-all, narrow, narrow-all}
use Rattle.net_rows.specs.Views.{entry_list, net_with, room_of, most_room, NetLaid, Holds, Left, Changed, taken_at, TakesOut}
use Rattle.net_rows.specs.Parts.{envelope_in, Alone, fitting, counted_at, Enters}
use Rattle.types.specs.declared.Envelope.{Envelope}

-- ---- maps and places
module _ {A B : Type 0} (f : A → B) where
  map-ins : (at : ℕ) (a : A) (l : List A) → ins at (f a) (map f l) ≡ map f (ins at a l)
  unfolding ins
  map-ins zero a l = refl
  map-ins (suc at) a [] = refl
  map-ins (suc at) a (x ∷ l) = ap (λ (r : List B). f x ∷ r) (map-ins at a l)

module _ {A : Type 0} (P : A → Type 0) where
  ins-all : (at : ℕ) (a : A) (l : List A) → P a → All P l → All P (ins at a l)
  unfolding ins
  ins-all zero a l p h = (p, h)
  ins-all (suc at) a [] p h = (p, tt)
  ins-all (suc at) a (x ∷ l) p h = (h.0, ins-all at a l p h.1)

  del-all : (at : ℕ) (l : List A) → All P l → All P (del at l)
  unfolding del
  del-all zero [] h = tt
  del-all zero (x ∷ l) h = h.1
  del-all (suc at) [] h = tt
  del-all (suc at) (x ∷ l) h = (h.0, del-all at l h.1)

  set_all : (at : ℕ) (a : A) (l : List A) → P a → All P l → All P (set l at a)
  set_all at a [] p h = tt
  set_all zero a (x ∷ l) p h = (p, h.1)
  set_all (suc at) a (x ∷ l) p h = (h.0, set_all at a l p h.1)

-- ---- `len` after a change at a place
len-ins : (at : ℕ) (a : Entry) (l : List Entry) → at ≤ length l → len (ins at a l) ≡ len l + a.count
unfolding ins len
len-ins zero a l h = omega arith
len-ins (suc at) a [] h = absurd (not-suc-le-zero h)
len-ins (suc at) a (x ∷ l) h = omega (arith, len-ins at a l (le_of_suc-le-suc h))

len-del : (at : ℕ) (l : List Entry) → at < length l → len (del at l) + (get_or l at zero_entry).count ≡ len l
unfolding del len
len-del at [] h = absurd (not-suc-le-zero h)
len-del zero (x ∷ l) h = omega arith
len-del (suc at) (x ∷ l) h = omega (arith, len-del at l (le_of_suc-le-suc h))

len-set : (at : ℕ) (a : Entry) (l : List Entry) → at < length l → len (set l at a) + (get_or l at zero_entry).count ≡ len l + a.count
unfolding len
len-set at a [] h = absurd (not-suc-le-zero h)
len-set zero a (x ∷ l) h = omega arith
len-set (suc at) a (x ∷ l) h = omega (arith, len-set at a l (le_of_suc-le-suc h))

len-some : (at : ℕ) (l : List Entry) → at < length l → (get_or l at zero_entry).count ≤ len l
len-some at l h = omega (arith, len-del at l h)

-- ---- the words of a cell
cell-count : (x : Entry) → get_or (cell_of x) 3 0 ≡ x.count
unfolding cell_of
cell-count x = refl

cell-counted : (x : Entry) (n : ℕ) → set (cell_of x) 3 n ≡ cell_of (record { envelope = x.envelope; count = n })
unfolding cell_of
cell-counted x n = refl

-- ---- what fits
module _ (c : Room) (k : Kind) (last : Option Envelope) (l : List Entry) where
  fitting-done : length l ≤ c.entries → all (λ x. leb x.count c.copies) l ≡ true → fitting c k last l ≡ done (net_with k last l)
  unfolding fits guard
  fitting-done h m = rw (le-leb (length l) c.entries h, m)

  fitting-long : c.entries < length l → fitting c k last l ≡ refused 8
  unfolding fits guard
  fitting-long h = rw (lt-leb (length l) c.entries h)

  fitting-many : length l ≤ c.entries → all (λ x. leb x.count c.copies) l ≡ false → fitting c k last l ≡ refused 8
  unfolding fits guard
  fitting-many h m = rw (le-leb (length l) c.entries h, m)

-- ---- what is left
pub changed-done
    : {cs cs' : List (List ℕ)} {used n u v : ℕ} {o : Outcome Net} {m : Net} → o ≡ done m → length cs' ≡ length cs → Holds cs' u v m.entries
    → Changed cs used n o (record { answer = Done; used = u; len = v }) cs'
changed-done {cs} {cs'} {used} {n} {u} {v} e r h =
    record { room = r; left = subst (λ (q : Outcome Net). Left cs used n q (record { answer = Done; used = u; len = v }) cs') (sym e) (refl, h) }

pub changed-not
    : {cs : List (List ℕ)} {used n k : ℕ} {o : Outcome Net} {a : Answer} → o ≡ refused k → a ≡ answer_of k
    → Changed cs used n o (record { answer = a; used = used; len = n }) cs
changed-not {cs} {used} {n} {a = a} e q = record {
  room = refl;
  left = subst (λ (p : Outcome Net). Left cs used n p (record { answer = a; used = used; len = n }) cs) (sym e) (q, refl, refl, refl);
}

full_is : NetworkFull ≡ answer_of 8
unfolding answer_of
full_is = refl

holds
    : {cs : List (List ℕ)} {used n : ℕ} {l : List Entry} → used ≤ length cs → take used cs ≡ map cell_of l → All Narrow l → n ≡ len l
    → Holds cs used n l
holds {l = l} h e w s = record { fit = h; cells = e; entries = ap (map entry_of) e ∙ back-all l w; sum = s }

pub used-is : (cs : List (List ℕ)) (used n : ℕ) → NetLaid cs used n → length (entry_list cs used) ≡ used
used-is cs used n laid = length-map (take used cs) entry_of ∙ length-take-le used cs laid.fit

module _ {cs : List (List ℕ)} {used n : ℕ} (laid : NetLaid cs used n) where
  abbrev l : List Entry
  l = entry_list cs used

  pub sized : length l ≡ used
  sized = used-is cs used n laid

  narrow-here : All Narrow l
  narrow-here = narrow-all (take used cs)

  pub at-cell : (i : ℕ) → i < used → get_or cs i [] ≡ cell_of (get_or l i zero_entry)
  at-cell i h =
      let v = sized in
      sym (get_or-take used cs i [] h) ∙ ap (λ (x : List (List ℕ)). get_or x i []) laid.cells ∙ map_get cell_of i l zero_entry [] (omega arith)

  pub narrow_at : (i : ℕ) → i < used → Narrow (get_or l i zero_entry)
  narrow_at i h = let v = sized in all-at Narrow l zero_entry narrow-here i (omega arith)

  -- the count of a cell
  abbrev copies : ℕ → ℕ
  copies i = get_or (get_or cs i []) 3 0

  at_count : (i : ℕ) → i < used → copies i ≡ (get_or l i zero_entry).count
  at_count i h = ap (λ (x : List ℕ). get_or x 3 0) (at-cell i h) ∙ cell-count (get_or l i zero_entry)

  pub len-small : n ≤ most_copies * most_room
  len-small = omega (arith, laid.sum, len-most l laid.counts, sized, laid.fit, laid.room)

  pub len_holds : (i : ℕ) → i < used → copies i ≤ n
  len_holds i h = let v = sized in let w = at_count i h in omega (arith, laid.sum, len-some i l (omega arith))

  pub as_it_was : Holds cs used n l
  as_it_was = holds laid.fit laid.cells narrow-here laid.sum

  pub unchanged : Enters (λ m. m) cs used n (record { answer = Done; used = used; len = n }) cs
  unchanged kind last =
      let v = sized in changed-done (fitting-done (room_of cs) kind last l (omega (arith, laid.fit)) laid.counts) refl as_it_was

  pub lead-fits : (p : List ℕ → Bool) (at : ℕ) → at ≡ lead p (take used cs) → at ≤ used
  lead-fits p at e = omega (arith, lead-le p (take used cs), length-take-le used cs laid.fit)

  -- ---- a new cell
  module _ {k : List ℕ} (alone : Alone k) (at : ℕ) (h : at ≤ used) where
    abbrev new : Entry
    new = single (envelope_in k)

    pub insert-full : length cs ≤ used → Enters (ins at new) cs used n (record { answer = NetworkFull; used = used; len = n }) cs
    insert-full g kind last =
        let v = sized in changed-not (fitting-long (room_of cs) kind last (ins at new l) (omega (arith, length-ins at new l (omega arith)))) full_is

    pub insert-done
        : used < length cs → (cs' : List (List ℕ)) → Moved (used + 1) (ins at k (take used cs)) cs cs'
        → Enters (ins at new) cs used n (record { answer = Done; used = used + 1; len = n + 1 }) cs'
    unfolding single
    insert-done g cs' p kind last =
        let v = sized in
        let w = length-ins at new l (omega arith) in
        let s : n + 1 ≡ len (ins at new l) = omega (arith, laid.sum, len-ins at new l (omega arith)) in
        let q : take (used + 1) cs' ≡ map cell_of (ins at new l) =
        p.0 ∙ ap₂ (λ (x : List ℕ) (m : List (List ℕ)). ins at x m) alone laid.cells ∙ map-ins cell_of at new l in
        let f = all-ins (λ x. leb x.count most_copies) at new l laid.counts ∙ le-leb 1 most_copies (omega arith) in
        changed-done (fitting-done (room_of cs) kind last (ins at new l) (omega arith) f) p.1
        (holds (omega (arith, p.1)) q (ins-all Narrow at new l (narrow k) narrow-here) s)

  -- ---- another count at a place
  module _ (at : ℕ) (h : at < used) where
    abbrev x : Entry
    x = get_or l at zero_entry

    module _ (f : Entry → ℕ) where
      abbrev y : Entry
      y = record { envelope = x.envelope; count = f x }

      recounted : (v : ℕ) → v + x.count ≡ n + f x → Holds (set cs at (set (get_or cs at []) 3 (f x))) used v (set l at y)
      recounted v e =
          let w = sized in
          let c = set (get_or cs at []) 3 (f x) in
          let q : take used (set cs at c) ≡ map cell_of (set l at y) =
          take-set-lt used cs at c h
          ∙ ap₂ (λ (m : List (List ℕ)) (z : List ℕ). set m at z) laid.cells
          (ap (λ (z : List ℕ). set z 3 (f x)) (at-cell at h) ∙ cell-counted x (f x))
          ∙ map-set cell_of at y l in
          let s : v ≡ len (set l at y) = omega (arith, laid.sum, len-set at y l (omega arith)) in
          holds (omega (arith, length-set cs at c, laid.fit)) q (set_all Narrow at y l (narrow_at at h) narrow-here) s

    -- ---- one copy more
    counted-fits : all (λ z. leb z.count most_copies) (counted_at at l) ≡ leb (suc x.count) most_copies
    unfolding counted_at again
    counted-fits =
        let v = sized in all_set (λ z. leb z.count most_copies) at (again UnorderedNonDuplicating x) l (omega arith) laid.counts

    counted-few : length (counted_at at l) ≤ length cs
    unfolding counted_at again
    counted-few = let v = sized in omega (arith, length-set l at (again UnorderedNonDuplicating x), laid.fit)

    pub count-full : most_copies ≤ copies at → Enters (counted_at at) cs used n (record { answer = NetworkFull; used = used; len = n }) cs
    count-full g kind last =
        let w = at_count at h in
        let m = counted-fits ∙ lt-leb (suc x.count) most_copies (omega arith) in
        changed-not (fitting-many (room_of cs) kind last (counted_at at l) counted-few m) full_is

    counted : Holds (set cs at (set (get_or cs at []) 3 (suc x.count))) used (n + 1) (counted_at at l)
    unfolding counted_at again
    counted = recounted (λ e. suc e.count) (n + 1) (omega arith)

    pub count-done
        : copies at < most_copies
        → Enters (counted_at at) cs used n (record { answer = Done; used = used; len = n + 1 }) (set cs at (set (get_or cs at []) 3 (copies at + 1)))
    count-done g kind last =
        let w = at_count at h in
        let z : copies at + 1 ≡ suc x.count = omega arith in
        let m = counted-fits ∙ le-leb (suc x.count) most_copies (omega arith) in
        rw z (changed-done (fitting-done (room_of cs) kind last (counted_at at l) counted-few m) (length-set cs at _) counted)

    -- ---- one copy less
    pub take_last
        : copies at ≤ 1 → (cs' : List (List ℕ)) → Moved (used - 1) (del at (take used cs)) cs cs'
        → TakesOut at cs used n (record { answer = Done; used = used - 1; len = n - copies at }) cs'
    unfolding taken_at choose
    take_last g cs' p kind last =
        let v = sized in
        let w = at_count at h in
        let k : x.count ≤ 1 = omega arith in
        let s : n - copies at ≡ len (del at l) = omega (arith, laid.sum, len-del at l (omega arith)) in
        let q : take (used - 1) cs' ≡ map cell_of (del at l) = p.0 ∙ ap (del at) laid.cells ∙ map-del cell_of at l in
        let b : Holds cs' (used - 1) (n - copies at) (del at l) = holds (omega (arith, p.1, laid.fit)) q (del-all Narrow at l narrow-here) s in
        changed-done refl p.1 (rw (le-leb x.count 1 k) b)

    pub take_more
        : 1 < copies at → TakesOut at cs used n (record { answer = Done; used = used; len = n - 1 }) (set cs at (set (get_or cs at []) 3 (copies at - 1)))
    unfolding taken_at choose lowered
    take_more g kind last =
        let v = sized in
        let w = at_count at h in
        let k : 1 < x.count = omega arith in
        let z : copies at - 1 ≡ x.count - 1 = omega arith in
        let o = len_holds at h in
        rw z (changed-done refl (length-set cs at _) (rw (lt-leb x.count 1 k) (recounted (λ e. e.count - 1) (n - 1) (omega arith))))
