-- Whether a layout is good.
-- Assumes nothing.
use Rattle.std.specs.Prelude.{Bool, true, false, Result, Ok, Err}

abbrev pub is_good : {E : Type 0} → Result Unit E → Bool
is_good (Ok u) = true
is_good (Err e) = false
