-- The 64 bits are those of the word behind its first at % 8, and as many of the byte behind it; where no byte is there, zeros.
use native.Mathlib.Omega.{arith}
use Prim.Native.Nat.{◌+◌, ◌/◌}
use Rattle.layout.proofs.Laws.{field_lt}
use Rattle.script_bits.proofs.Laws.{nine-is, eight_is}
use Rattle.script_bits.proofs.window.Goals as goal

pub returns-then-s-i : goal.returns-then-s-i
returns-then-s-i c =
    let a = c.args in eight_is a.s.now a.at _ c.last.ensures (omega arith)

pub overflow_cast-b : goal.overflow_cast-b
overflow_cast-b c = omega (arith, c.type_inv.s (c.args.at / 8 + 8))

pub overflow_add-result : goal.overflow_add-result
overflow_add-result c =
    let a = c.args in
    let b = c.type_inv.s (a.at / 8 + 8) in
    omega (arith, nine-is a.s.now a.at _ c.full.ensures (omega (arith, b)), field_lt a.s.now a.at 64)

pub returns : goal.returns
returns c =
    let a = c.args in
    let b = c.type_inv.s (a.at / 8 + 8) in
    nine-is a.s.now a.at _ c.full.ensures (omega (arith, b))
