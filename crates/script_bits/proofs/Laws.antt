-- A field that is cut out of the numbers that its bytes make.
-- Assumes nothing.
use Prim.Native.Nat.{ℕ, ◌+◌, ◌-◌, ◌*◌, ◌/◌, ◌%◌, ◌^◌, ◌≤◌, ◌<◌}
use native.Mathlib.Nat.{add-mul, mul_assoc, mod-lt, mul-mod_left, add-zero, add_comm, zero-div, lt_of_lt_of_le}
use native.Mathlib.Omega.{arith}
use mathlib.Core.Path.{◌≡◌, refl, sym, ap, ap₂, subst, ◌∙◌}
use mathlib.Core.List.{List, [], ◌∷◌}
use Rattle.std.specs.Int.{w64, from_be_bytes}
use lib.ListN.{length, get_or}
use lib.Arith.{digits_lt}
use lib.Pow.{pow_pos, pow_mono, pow-add, shl_lt, shl_exact, shr_lt, shl-shr, shr-shr, high, low, mod-pow-add}
use Rattle.layout.specs.Bits.{field_at}
use Rattle.layout.proofs.Laws.{field_lt, field-add, field-in-byte, field_past}
use Rattle.script_bits.specs.Front.{Front}

-- a byte
pub byte-is : (xs : List ℕ) (at i : ℕ) → at ≡ 8 * i → get_or xs i 0 < 256 → get_or xs i 0 ≡ field_at xs at 8
byte-is xs at i e h =
    let q : at / 8 ≡ i = omega arith in
    let w = field-in-byte xs at 8 0 (omega arith) in
    let z : get_or xs (at / 8) 0 / 2 ^ 0 % 2 ^ 8 ≡ get_or xs i 0 = rw q (omega arith) in
    sym (w ∙ z)

-- two fields side by side, each moved up by itself, are both moved up
pub raised
    : (xs : List ℕ) (at next j k a b : ℕ) → next ≡ at + j → a ≡ field_at xs at j * 2 ^ (k + j) → b ≡ field_at xs next j * 2 ^ k
    → a + b ≡ field_at xs at (j + j) * 2 ^ k
raised xs at next j k a b n p q =
    let x = field_at xs at j in
    let y = field_at xs (at + j) j in
    let e : x * 2 ^ (k + j) ≡ x * 2 ^ j * 2 ^ k = rw (add_comm k j, pow-add 2 j k) (sym (mul_assoc x (2 ^ j) (2 ^ k))) in
    rw (p, q, n, e, ← add-mul (x * 2 ^ j) y (2 ^ k), ← field-add xs at j j)

-- a field that is moved up fits, and nothing is moved out
pub raised-fits : (xs : List ℕ) (at j k : ℕ) → j + k ≤ 64 → field_at xs at j * 2 ^ k < 2 ^ 64
raised-fits xs at j k h = lt_of_lt_of_le (shl_lt j k (field_lt xs at j)) (pow_mono h)

pub pair_is
    : (xs : List ℕ) (i k : ℕ) → get_or xs i 0 < 256 → get_or xs (i + 1) 0 < 256 → k ≤ 48
    → get_or xs i 0 * 2 ^ (k + 8) % 2 ^ 64 + get_or xs (i + 1) 0 * 2 ^ k % 2 ^ 64 ≡ field_at xs (8 * i) 16 * 2 ^ k
pair_is xs i k g h l =
    raised xs (8 * i) (8 * i + 8) 8 k _ _ refl
    (byte-raised (8 * i) i (k + 8) refl g (omega arith))
    (byte-raised (8 * i + 8) (i + 1) k (omega arith) h (omega arith))
  where
    byte-raised : (at i k : ℕ) → at ≡ 8 * i → get_or xs i 0 < 256 → k ≤ 56 → get_or xs i 0 * 2 ^ k % 2 ^ 64 ≡ field_at xs at 8 * 2 ^ k
    byte-raised at i k e h g = shl_exact 8 k 64 h (omega arith) ∙ ap (λ (x : ℕ). x * 2 ^ k) (byte-is xs at i e h)

-- ---- bytes behind the k that were read
module _ (xs : List ℕ) (i k n : ℕ) (e : n ≡ field_at xs (8 * i) (8 * k)) where
  pub one_more : {j : ℕ} → j ≡ i + k → get_or xs j 0 < 256 → n * 256 + get_or xs j 0 ≡ field_at xs (8 * i) (8 * k + 8)
  one_more {j} z h =
      let m = 8 * k in
      rw (field-add xs (8 * i) m 8, ← byte-is xs (8 * i + m) j (omega arith) h, e)

  -- the last ones: no more than eight were left
  pub zeros-behind : k ≤ 8 → length xs ≤ i + k → n * 2 ^ (64 - 8 * k) % 2 ^ 64 ≡ field_at xs (8 * i) 64
  zeros-behind h l =
      let m = 8 * k in
      let r = 64 - m in
      let q : m + r ≡ 64 = omega arith in
      let z : field_at xs (8 * i + m) r ≡ 0 = field_past xs (8 * i + m) r (omega arith) in
      let f : n < 2 ^ m = rw e (field_lt xs (8 * i) m) in
      shl_exact m r 64 f (omega arith) ∙ ap (λ (x : ℕ). x * 2 ^ r) e
      ∙ sym (ap (field_at xs (8 * i)) (sym q) ∙ field-add xs (8 * i) m r ∙ ap (λ (x : ℕ). field_at xs (8 * i) m * 2 ^ r + x) z ∙ add-zero _)

-- eight bytes, most significant first
pub eight_bytes
    : (xs : List ℕ) (i : ℕ) → ((j : ℕ) → get_or xs j 0 < 256)
    → from_be_bytes w64 (
    get_or xs i 0 ∷ get_or xs (i + 1) 0 ∷ get_or xs (i + 2) 0 ∷ get_or xs (i + 3) 0
    ∷ get_or xs (i + 4) 0 ∷ get_or xs (i + 5) 0 ∷ get_or xs (i + 6) 0 ∷ get_or xs (i + 7) 0 ∷ [])
    ≡ field_at xs (8 * i) 64
unfolding field_at
eight_bytes xs i h =
    let a0 = one_more xs i 0 0 refl {j = i} (omega arith) (h i) in
    let a1 = one_more xs i 1 _ a0 {j = i + 1} (omega arith) (h (i + 1)) in
    let a2 = one_more xs i 2 _ a1 {j = i + 2} (omega arith) (h (i + 2)) in
    let a3 = one_more xs i 3 _ a2 {j = i + 3} (omega arith) (h (i + 3)) in
    let a4 = one_more xs i 4 _ a3 {j = i + 4} (omega arith) (h (i + 4)) in
    let a5 = one_more xs i 5 _ a4 {j = i + 5} (omega arith) (h (i + 5)) in
    let a6 = one_more xs i 6 _ a5 {j = i + 6} (omega arith) (h (i + 6)) in
    let a7 = one_more xs i 7 _ a6 {j = i + 7} (omega arith) (h (i + 7)) in
    omega (arith, a7)

-- the first k of k + m bits, and the last m of them moved to the front
module _ (xs : List ℕ) (at k m : ℕ) {w : ℕ} (e : w ≡ field_at xs at (k + m)) where
  pub front : w / 2 ^ m ≡ field_at xs at k
  front = rw (e, field-add xs at k m) (high (field_at xs at k) m (field_lt xs (at + k) m))

  pub moved : w * 2 ^ k % 2 ^ (m + k) ≡ field_at xs (at + k) m * 2 ^ k
  moved =
      let a = field_at xs at k in
      let b = field_at xs (at + k) m in
      rw (e, field-add xs at k m, add-mul (a * 2 ^ m) b (2 ^ k), mul_assoc a (2 ^ m) (2 ^ k), ← pow-add 2 m k)
      (low a (m + k) (shl_lt m k (field_lt xs (at + k) m)))

-- the 64 bits from bit k on of a word and the n bits behind it
pub window-is
    : (xs : List ℕ) (at k n w b : ℕ) → k ≤ n → k ≤ 64 → w ≡ field_at xs at 64 → b ≡ field_at xs (at + 64) n
    → w * 2 ^ k % 2 ^ 64 + b / 2 ^ (n - k) ≡ field_at xs (at + k) 64
window-is xs at k n w b h g e f =
    let m = 64 - k in
    let p : 64 ≡ k + m = omega arith in
    let q : m + k ≡ 64 = omega arith in
    let r : n ≡ k + (n - k) = omega arith in
    let x : w * 2 ^ k % 2 ^ 64 ≡ field_at xs (at + k) m * 2 ^ k =
    ap (λ (j : ℕ). w * 2 ^ k % 2 ^ j) (sym q) ∙ moved xs at k m (e ∙ ap (field_at xs at) p) in
    let y : b / 2 ^ (n - k) ≡ field_at xs (at + 64) k = front xs (at + 64) k (n - k) (f ∙ ap (field_at xs (at + 64)) r) in
    let z : at + 64 ≡ at + k + m = omega arith in
    ap₂ (λ (i j : ℕ). i + j) x (y ∙ ap (λ (i : ℕ). field_at xs i k) z) ∙ sym (field-add xs (at + k) m k) ∙ ap (field_at xs (at + k)) q

-- a word and the byte behind it, or nothing
module _ (xs : List ℕ) (at w : ℕ) (e : w ≡ field_at xs (8 * (at / 8)) 64) where
  pub nine-is : get_or xs (at / 8 + 8) 0 < 256 → w * 2 ^ (at % 8) % 2 ^ 64 + get_or xs (at / 8 + 8) 0 / 2 ^ (8 - at % 8) ≡ field_at xs at 64
  nine-is g =
      let i = at / 8 in
      let p : 8 * i + at % 8 ≡ at = omega arith in
      window-is xs (8 * i) (at % 8) 8 w (get_or xs (i + 8) 0) (omega arith) (omega arith) e (byte-is xs (8 * i + 64) (i + 8) (omega arith) g)
      ∙ ap (λ (j : ℕ). field_at xs j 64) p

  pub eight_is : length xs ≤ at / 8 + 8 → w * 2 ^ (at % 8) % 2 ^ 64 ≡ field_at xs at 64
  eight_is l =
      let i = at / 8 in
      let p : 8 * i + at % 8 ≡ at = omega arith in
      let z : 0 ≡ field_at xs (8 * i + 64) 8 = sym (field_past xs (8 * i + 64) 8 (omega arith)) in
      let q : w * 2 ^ (at % 8) % 2 ^ 64 + 0 / 2 ^ (8 - at % 8) ≡ w * 2 ^ (at % 8) % 2 ^ 64 = rw (zero-div (2 ^ (8 - at % 8))) (add-zero _) in
      sym q ∙ window-is xs (8 * i) (at % 8) 8 w 0 (omega arith) (omega arith) e z ∙ ap (λ (j : ℕ). field_at xs j 64) p

-- its sum fits a word, whatever the words are
window-fits : (k w v : ℕ) → k ≤ 64 → v < 2 ^ 64 → w * 2 ^ k % 2 ^ 64 + v / 2 ^ (64 - k) < 2 ^ 64
window-fits k w v h g =
    let m = 64 - k in
    let q : m + k ≡ 64 = omega arith in
    let n = w * 2 ^ k in
    let x : n % 2 ^ (m + k) ≡ n / 2 ^ k % 2 ^ m * 2 ^ k + n % 2 ^ k = mod-pow-add n m k in
    let y : n / 2 ^ k % 2 ^ m * 2 ^ k + n % 2 ^ k ≡ n / 2 ^ k % 2 ^ m * 2 ^ k = rw (mul-mod_left w (2 ^ k)) (add-zero _) in
    let b : v / 2 ^ m < 2 ^ k = shr_lt k m (rw (add_comm k m, q) g) in
    let z : n / 2 ^ k % 2 ^ m * 2 ^ k + v / 2 ^ m < 2 ^ (m + k) = rw (pow-add 2 m k) (digits_lt (mod-lt (n / 2 ^ k) (pow_pos m)) b) in
    let e : n % 2 ^ 64 ≡ n / 2 ^ k % 2 ^ m * 2 ^ k = ap (λ (j : ℕ). n % 2 ^ j) (sym q) ∙ x ∙ y in
    rw e (subst (λ (j : ℕ). n / 2 ^ k % 2 ^ m * 2 ^ k + v / 2 ^ m < 2 ^ j) q z)

-- a field of the second word
pub second_is
    : (xs : List ℕ) (k width v : ℕ) → k + width ≤ 64 → v ≡ field_at xs 64 64 → v * 2 ^ k % 2 ^ 64 / 2 ^ (64 - width) ≡ field_at xs (64 + k) width
second_is xs k width v h e =
    let m = 64 - k in
    let n = 64 - k - width in
    let p : 64 ≡ k + m = omega arith in
    let q : m + k ≡ 64 = omega arith in
    let r : m ≡ width + n = omega arith in
    let s : 64 - width ≡ k + n = omega arith in
    let b = field_at xs (64 + k) m in
    let x : v * 2 ^ k % 2 ^ 64 ≡ b * 2 ^ k = ap (λ (j : ℕ). v * 2 ^ k % 2 ^ j) (sym q) ∙ moved xs 64 k m (e ∙ ap (field_at xs 64) p) in
    rw (x, s, ← shr-shr (b * 2 ^ k) k n, shl-shr b k) (front xs (64 + k) width n (ap (field_at xs (64 + k)) r))

-- out of two words: the shift of 64 - k is in two parts, each of which is less than 64
module _ (k w v : ℕ) (h : k < 64) where
  halved : v / 2 / 2 ^ (63 - k) ≡ v / 2 ^ (64 - k)
  halved =
      let e : 1 + (63 - k) ≡ 64 - k = omega arith in shr-shr v 1 (63 - k) ∙ ap (λ (j : ℕ). v / 2 ^ j) e

  pub across-fits : v < 2 ^ 64 → w * 2 ^ k % 2 ^ 64 + v / 2 / 2 ^ (63 - k) < 2 ^ 64
  across-fits g = rw halved (window-fits k w v (omega arith) g)

  pub across-is : (xs : List ℕ) → Front xs w v → w * 2 ^ k % 2 ^ 64 + v / 2 / 2 ^ (63 - k) ≡ field_at xs k 64
  across-is xs f =
      let z : 0 + k ≡ k = omega arith in
      ap (λ (j : ℕ). w * 2 ^ k % 2 ^ 64 + j) halved ∙ window-is xs 0 k 64 w v (omega arith) (omega arith) f.first f.second
      ∙ ap (λ (j : ℕ). field_at xs j 64) z
