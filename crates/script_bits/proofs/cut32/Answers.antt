-- A field of at most 32 bits fits the number.
use native.Mathlib.Omega.{arith}
use lib.Pow.{pow_mono}
use Rattle.script_bits.proofs.cut32.Goals as goal

pub overflow_cast-result : goal.overflow_cast-result
overflow_cast-result c = omega (arith, c.cut.ensures.fits, pow_mono {i = c.args.width} {j = 32} (omega arith))
