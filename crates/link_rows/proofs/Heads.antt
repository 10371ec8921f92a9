-- Words that fit what they stand for, before a change and after it.
-- Assumes nothing.
use Prim.Native.Nat.{ℕ, zero, suc, ◌+◌, ◌-◌, ◌≤◌, ◌<◌}
use native.Mathlib.Omega.{arith}
use mathlib.Core.Path.{◌≡◌, sym, ap, ◌∙◌}
use mathlib.Core.List.{List, [], ◌∷◌}
use lib.ListN.{length, get_or, set, take}
use lib.Seq.{get_or-set_same, get_or-set_other, get_or-take}
use borrow.Author.Count.{below_more}
use Rattle.lists.specs.Lists.{del}
use Rattle.link_rows.specs.Rows.{row_size, Sendable, HeadLaid}

-- The records that are counted are the same ones.
pub sendable-same : (p q : List (List ℕ)) (n : ℕ) → take n q ≡ take n p → Sendable p n → Sendable q n
sendable-same p q n e fit =
    let at : (i : ℕ) → i < n → get_or q i [] ≡ get_or p i [] =
    λ i h. sym (get_or-take n q i [] h) ∙ ap (λ (l : List (List ℕ)). get_or l i []) e ∙ get_or-take n p i [] h in
    record {
      dst = λ i h. let z = ap (λ (r : List ℕ). get_or r 1 0) (at i h) in let y = fit.dst i h in omega arith;
      payload = λ i h. let z = ap (λ (r : List ℕ). get_or r 2 0) (at i h) in let y = fit.payload i h in omega arith;
    }

-- The same words up to place 3.
pub head-same : (w v : List ℕ) (p : List (List ℕ)) → get_or v 1 0 ≡ get_or w 1 0 → get_or v 2 0 ≡ get_or w 2 0 → get_or v 3 0 ≡ get_or w 3 0
    → HeadLaid w p → HeadLaid v p
head-same w v p e1 e2 e3 fit = record {
  sendable = rw e1 fit.sendable;
  saves = let z = fit.saves in omega arith;
  value = let z = fit.value in omega arith;
}

-- ---- one record more
module _ (p : List (List ℕ)) (n : ℕ) (q : List ℕ) (room : n < length p) where
  word_more : (k most : ℕ) → get_or q k 0 < most → ((i : ℕ) → i < n → get_or (get_or p i []) k 0 < most)
      → (i : ℕ) → i < n + 1 → get_or (get_or (set p n q) i []) k 0 < most
  word_more k most h old = below_more (λ (i : ℕ). get_or (get_or (set p n q) i []) k 0 < most) n
      (λ i l. let z = ap (λ (r : List ℕ). get_or r k 0) (get_or-set_other p n i q [] (λ e. omega arith)) in let y = old i l in omega arith)
      (let z = ap (λ (r : List ℕ). get_or r k 0) (get_or-set_same p n q [] room) in omega arith)

  pub sendable-more : Sendable p n → get_or q 1 0 < 256 → get_or q 2 0 < 4294967296 → Sendable (set p n q) (n + 1)
  sendable-more fit a b = record { dst = word_more 1 256 a fit.dst; payload = word_more 2 4294967296 b fit.payload }

module _ (w v : List ℕ) (p : List (List ℕ)) (q : List ℕ) (room : get_or w 1 0 < length p) (fit : HeadLaid w p) where
  pub head_more : get_or q 1 0 < 256 → get_or q 2 0 < 4294967296 → get_or v 1 0 ≡ get_or w 1 0 + 1 → get_or v 2 0 ≡ get_or w 2 0 → get_or v 3 0 ≡ get_or w 3 0
      → HeadLaid v (set p (get_or w 1 0) q)
  head_more a b e1 e2 e3 = record {
    sendable = rw e1 (sendable-more p (get_or w 1 0) q room fit.sendable a b);
    saves = let z = fit.saves in omega arith;
    value = let z = fit.value in omega arith;
  }

-- ---- one record less
past : {A : Type 0} (P : A → Type 0) (d : A) (at : ℕ) (l : List A) (n : ℕ) → ((i : ℕ) → i ≤ n → P (get_or l i d))
    → (i : ℕ) → i < n → P (get_or (del at l) i d)
unfolding del
past P d zero [] n h i b = h i (omega arith)
past P d zero (x ∷ l) n h i b = h (suc i) (omega arith)
past P d (suc at) [] n h i b = h i (omega arith)
past P d (suc at) (x ∷ l) n h zero b = h zero (omega arith)
past P d (suc at) (x ∷ l) n h (suc i) b = past P d at l (n - 1) (λ j c. h (suc j) (omega arith)) i (omega arith)

module _ (p q : List (List ℕ)) (n at : ℕ) (some : 0 < n) (e : take (n - 1) q ≡ del at (take n p)) where
  word-less : (k most : ℕ) → ((i : ℕ) → i < n → get_or (get_or p i []) k 0 < most) → (i : ℕ) → i < n - 1 → get_or (get_or q i []) k 0 < most
  word-less k most old i h =
      let y = past (λ (r : List ℕ). get_or r k 0 < most) [] at (take n p) (n - 1)
      (λ j c. let l : j < n = omega arith in let z = ap (λ (r : List ℕ). get_or r k 0) (get_or-take n p j [] l) in let x = old j l in omega arith) i h in
      let z = ap (λ (r : List ℕ). get_or r k 0) (sym (get_or-take (n - 1) q i [] h) ∙ ap (λ (l : List (List ℕ)). get_or l i []) e) in
      omega arith

  pub head-less : (w : List ℕ) → length w ≡ row_size → n ≡ get_or w 1 0 → HeadLaid w p → HeadLaid (set w 1 (n - 1)) q
  head-less w room c fit =
      let e1 = get_or-set_same w 1 (n - 1) 0 (omega arith) in
      let e2 = get_or-set_other w 1 2 (n - 1) 0 (λ z. omega arith) in
      let e3 = get_or-set_other w 1 3 (n - 1) 0 (λ z. omega arith) in
      let old : Sendable p n = rw c fit.sendable in
      record {
        sendable = rw e1 (record { dst = word-less 1 256 old.dst; payload = word-less 2 4294967296 old.payload });
        saves = let z = fit.saves in omega arith;
        value = let z = fit.value in omega arith;
      }
