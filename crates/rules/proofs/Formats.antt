-- Every format that a version gives keeps to what the code asks of one. The bounds are numbers, so it is seen by computing.
-- Assumes nothing.
use Prim.Native.Nat.{ℕ}
use mathlib.Core.Bool.{Bool, true, false}
use lib.Dec.{eqb, lit≤}
use Rattle.lists.specs.Lists.{choose}
use Rattle.types.specs.declared.Format.{Format}
use Rattle.rules.specs.Script.{version1, versions, format_of, Fine}

fine1 : Fine version1
fine1 = record { event = lit≤ tt; command = lit≤ tt; count = lit≤ tt; tag = lit≤ tt; number = lit≤ tt; most = lit≤ tt }

either : (b : Bool) (f g : Format) → Fine f → Fine g → Fine (choose b f g)
unfolding choose
either true f g h k = h
either false f g h k = k

pub formats-fine : (n : ℕ) → Fine (format_of versions n)
unfolding format_of
formats-fine n = either (eqb n 1) version1 version1 fine1 fine1
