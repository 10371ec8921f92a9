-- Each turn puts one more byte behind those that were read.
use Rattle.std.proofs.Common.{◌-◌, length}
use Prim.Native.Nat.{◌*◌}
use mathlib.Core.Path.{◌≡◌}
use Rattle.layout.specs.Bits.{field_at}
use Rattle.script_bits.proofs.last.Given as goal

abbrev pub invariant-loop-b : goal.invariant-loop-b
invariant-loop-b l = l.n ≡ field_at l.s (8 * l.i) (8 * l.b-index)

abbrev pub decreases-loop-b : goal.decreases-loop-b
decreases-loop-b l = length l.rest - l.b-index
