-- A field of at most 8 bits fits the number.
use native.Mathlib.Omega.{arith}
use Rattle.layout.proofs.Laws.{field_below}
use Rattle.script_bits.proofs.field8.Goals as goal

pub overflow_cast-result : goal.overflow_cast-result
overflow_cast-result c =
    let a = c.args in omega (arith, c.field.ensures, field_below a.s.now a.at a.width 8 (omega arith))
