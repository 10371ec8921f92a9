-- A field of at most 8 bits fits the number.
use native.Mathlib.Omega.{arith}
use lib.Pow.{pow_mono}
use Rattle.script_bits.proofs.cut8.Goals as goal

pub overflow_cast-result : goal.overflow_cast-result
overflow_cast-result c = omega (arith, c.cut.ensures.fits, pow_mono {i = c.args.width} {j = 8} (omega arith))
