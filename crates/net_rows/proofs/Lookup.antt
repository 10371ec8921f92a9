-- The look-up in entries that ascend: all before the place stand before the envelope, and all after it stand after. So only the entry at the place can
-- be equal to it.
-- Assumes nothing.
use Prim.Native.Nat.{ℕ, ◌≤◌, ◌<◌}
use native.Mathlib.Omega.{arith}
use native.Mathlib.Decide.{dec_lt}
use mathlib.Core.Path.{◌≡◌, refl, sym, ap, ◌∙◌}
use mathlib.Core.Logic.{◌⊎◌, inl, inr, ⊎_elim}
use mathlib.Core.Bool.{Bool, true, false, not, ◌||◌, true≢false, false≢true}
use mathlib.Core.List.{List}
use lib.ListN.{length, get_or}
use Rattle.lists.specs.Lists.{choose, chain, lead}
use Rattle.lists.proofs.Sorted.{chain-sorted}
use Rattle.types.specs.declared.Envelope.{Envelope}
use Rattle.types.specs.declared.Entry.{Entry}
use Rattle.types.specs.Order.{cmp_envelope, is_less, is_equal, same}
use Rattle.types.proofs.Laws.{less-is, less-trans, not-up-to}
use Rattle.std.specs.Prelude.{Ok, Err}
use Rattle.std.specs.Result.{result_unwrap_or}
use Rattle.net_cells.specs.Cells.{zero_entry}
use Rattle.net_slots.proofs.Tests.{any-yes, any-no, first-at, first-missing}
use Rattle.net_rows.specs.Search.{stands, look_up}

-- ---- equal, before, after
before-other : (e f : Envelope) → is_less (cmp_envelope e f) ≡ true → same e f ≡ false
unfolding same
before-other e f h = ap is_equal (less-is (cmp_envelope e f) h)

after-other : (e f : Envelope) → is_less (cmp_envelope f e) ≡ true → same e f ≡ false
after-other e f h = go (same e f) (is_less (cmp_envelope e f)) (not-up-to e f ∙ h)
  where
    go : (s t : Bool) → not (s || t) ≡ true → s ≡ false
    go true t q = absurd (false≢true q)
    go false t q = refl

not_after : (e f : Envelope) → is_less (cmp_envelope f e) ≡ false → same e f ≡ false → is_less (cmp_envelope e f) ≡ true
not_after e f h k = go (is_less (cmp_envelope e f)) (rw k at (not-up-to e f ∙ h))
  where
    go : (t : Bool) → not (false || t) ≡ false → t ≡ true
    go true q = refl
    go false q = absurd (true≢false q)

module _ (e : Envelope) where
  abbrev pub equal : Entry → Bool
  equal x = same e x.envelope

  abbrev pub before : Entry → Bool
  before x = is_less (cmp_envelope x.envelope e)

  later-other : (x y : Entry) → before x ≡ false → equal x ≡ false → stands x y ≡ true → equal y ≡ false
  later-other x y b q r = before-other e y.envelope (less-trans e x.envelope y.envelope (not_after e x.envelope b q) r)

  -- ---- the two answers
  pub record There (l : List Entry) (at : ℕ) : Type 0 where
    pub place : at ≡ lead before l
    pub within : at < length l
    pub found : equal (get_or l at zero_entry) ≡ true
    pub first : at ≡ lead (λ x. not (equal x)) l
    pub look : Ok at ≡ look_up e l

  pub record Missing (l : List Entry) (at : ℕ) : Type 0 where
    pub place : at ≡ lead before l
    pub other : at < length l → equal (get_or l at zero_entry) ≡ false
    pub first : length l ≡ lead (λ x. not (equal x)) l
    pub look : Err at ≡ look_up e l

  module _ (l : List Entry) (at : ℕ) (p : at ≡ lead before l) where
    pub is-there : at < length l → equal (get_or l at zero_entry) ≡ true → There l at
    unfolding look_up choose
    is-there h q =
        let f = first-at equal before (λ x. after-other e x.envelope) zero_entry l (rw p at h) (rw p at q) in
        let w : lead (λ x. not (equal x)) l < length l = omega arith in
        record { place = p; within = h; found = q; first = p ∙ sym f; look = rw (any-yes equal l w) (ap Ok p) }

    pub is-missing : chain stands l ≡ true → (at < length l → equal (get_or l at zero_entry) ≡ false) → Missing l at
    unfolding look_up choose
    is-missing s q =
        let o = chain-sorted stands (λ x y z. less-trans x.envelope y.envelope z.envelope) l s in
        let f = first-missing equal before (λ x. after-other e x.envelope) zero_entry (λ x y. stands x y ≡ true) later-other l o (rw p at q) in
        let w : length l ≤ lead (λ x. not (equal x)) l = omega arith in
        record { place = p; other = q; first = sym f; look = rw (any-no equal l w) (ap Err p) }

  -- ---- what an answer tells
  module _ (l : List Entry) (s : chain stands l ≡ true) where
    abbrev at : ℕ
    at = lead before l

    looked : There l at ⊎ Missing l at
    looked = go (dec_lt at (length l)) (equal (get_or l at zero_entry)) refl
      where
        go : Dec (at < length l) → (b : Bool) → equal (get_or l at zero_entry) ≡ b → There l at ⊎ Missing l at
        go (yes h) true q = inl (is-there l at refl h q)
        go (yes h) false q = inr (is-missing l at refl s (λ _. q))
        go (no h) b q = inr (is-missing l at refl s (λ k. absurd (h k)))

    pub told_at : (i : ℕ) → look_up e l ≡ Ok i → There l i
    told_at i q =
        ⊎_elim (λ t. let z : at ≡ i = cc t.look in rw z at t) (λ t. let z : ◌≡◌ {A = ℕ} 0 1 = cc t.look in absurd (omega arith)) looked

    pub told_free : (i : ℕ) → look_up e l ≡ Err i → Missing l i
    told_free i q =
        ⊎_elim (λ t. let z : ◌≡◌ {A = ℕ} 0 1 = cc t.look in absurd (omega arith)) (λ t. let z : at ≡ i = cc t.look in rw z at t) looked

    pub told_place : (n : ℕ) → n ≡ length l → result_unwrap_or (look_up e l) n ≡ lead (λ x. not (equal x)) l
    told_place n q =
        ⊎_elim (λ t. ap (λ r. result_unwrap_or r n) (sym t.look) ∙ t.first) (λ t. ap (λ r. result_unwrap_or r n) (sym t.look) ∙ (q ∙ t.first)) looked
