-- The bytes, most significant first, are the field of their bits.
use native.Mathlib.Omega.{arith}
use mathlib.Core.Path.{◌∙◌}
use Rattle.script_bits.proofs.Laws.{eight_bytes}
use Rattle.script_bits.proofs.full.Goals as goal

pub returns : goal.returns
returns c = c.from_be_bytes.ensures ∙ eight_bytes c.args.s.now c.args.i (λ j. omega (arith, c.type_inv.s j))
