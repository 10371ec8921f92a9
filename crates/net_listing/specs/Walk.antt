-- A walk from a place until nothing more is told: over any places, and anything that is told of them.
-- Assumes nothing.
use Rattle.std.specs.Prelude.{List, [], ◌∷◌}

-- `ends c`: nothing is told at c. `tells c a d`: a is told at c, and d is the place after it. The walk from c gives the list.
pub data Walk {C A : Type 0} (ends : C → Type 0) (tells : C → A → C → Type 0) : C → List A → Type 0 where
  over : {c : C} → ends c → Walk ends tells c []
  on : {c d : C} {a : A} {l : List A} → tells c a d → Walk ends tells d l → Walk ends tells c (a ∷ l)
