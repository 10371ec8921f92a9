-- A field of at most 32 bits fits the number.
use native.Mathlib.Omega.{arith}
use Rattle.layout.proofs.Laws.{field_below}
use Rattle.script_bits.proofs.field32.Goals as goal

pub overflow_cast-result : goal.overflow_cast-result
overflow_cast-result c =
    let a = c.args in omega (arith, c.field.ensures, field_below a.s.now a.at a.width 32 (omega arith))
