-- What the search leaves open of `last`.
use Prim.Native.Nat.{ℕ, ◌+◌, ◌-◌, ◌*◌, ◌<◌, ◌^◌, ◌%◌}
use native.Mathlib.Omega.{arith}
use mathlib.Core.List.{List}
use mathlib.Core.Path.{◌≡◌, refl, sym, ap, ◌∙◌}
use lib.ListN.{length, take, drop, get_or, length-drop}
use lib.Seq.{take_all}
use Rattle.std.proofs.lemmas.List.{get_or-drop}
use Rattle.layout.specs.Bits.{field_at}
use Rattle.layout.proofs.Laws.{field_below, field_past}
use Rattle.script_bits.proofs.Laws.{one_more, zeros-behind}
use Rattle.script_bits.proofs.last.Goals as goal

-- the bytes from the place k on
module _ (xs : List ℕ) (k : ℕ) where
  abbrev rest : List ℕ
  rest = take (length xs - k) (drop k xs)

  all-left : rest ≡ drop k xs
  all-left = take_all (length xs - k) (drop k xs) (omega (arith, length-drop k xs))

  long : length rest ≡ length xs - k
  long = ap length all-left ∙ length-drop k xs

  item : (j : ℕ) → get_or rest j 0 ≡ get_or xs (k + j) 0
  item j = ap (λ (ys : List ℕ). get_or ys j 0) all-left ∙ get_or-drop k xs j 0

pub returns-then-s-i : goal.returns-then-s-i
returns-then-s-i c =
    let a = c.args in sym (field_past a.s.now (8 * a.i) 64 (omega arith))

pub loop-b-init : goal.loop-b-init
unfolding field_at
loop-b-init c = refl

pub overflow_mul-n : goal.overflow_mul-n
overflow_mul-n c =
    let l = c.loop-b in
    let a = c.args in
    let n = long a.s.now a.i in
    omega (arith, l.invariant, field_below a.s.now (8 * a.i) (8 * l.b-index) 56 (omega arith))

pub overflow_add-n : goal.overflow_add-n
overflow_add-n c =
    let l = c.loop-b in
    let a = c.args in
    let n = long a.s.now a.i in
    let b = c.type_inv.s (a.i + l.b-index) in
    omega (arith, b, item a.s.now a.i l.b-index, l.invariant, field_below a.s.now (8 * a.i) (8 * l.b-index) 56 (omega arith))

pub loop-b-preserved : goal.loop-b-preserved
loop-b-preserved c =
    let l = c.loop-b in
    let a = c.args in
    let n = long a.s.now a.i in
    let b = c.type_inv.s (a.i + l.b-index) in
    let z : 8 * l.b-index + 8 ≡ 8 * (l.b-index + 1) = omega arith in
    ap (λ (x : ℕ). l.n * 256 + x) (item a.s.now a.i l.b-index)
    ∙ one_more a.s.now a.i l.b-index l.n l.invariant (omega arith) (omega (arith, b))
    ∙ ap (field_at a.s.now (8 * a.i)) z

pub returns : goal.returns
returns c =
    let l = c.loop-b in
    let a = c.args in
    let n = long a.s.now a.i in
    let z : length (rest a.s.now a.i) ≡ l.b-index = omega arith in
    ap (λ (k : ℕ). l.n * 2 ^ (64 - 8 * k) % 18446744073709551616) z
    ∙ zeros-behind a.s.now a.i l.b-index l.n l.invariant (omega arith) (omega arith)
