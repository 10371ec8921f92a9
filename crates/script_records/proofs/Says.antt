-- An answer that is the image of a reading has its number and its values: the number is a matter of the answer's case alone.
-- Assumes nothing.
use Prim.Native.Nat.{ℕ}
use mathlib.Core.Path.{◌≡◌, refl, ap, ◌∙◌}
use Rattle.std.specs.Prelude.{Option, Result}
use Rattle.layout.specs.Read.{Reading, read, bad_at}
use Rattle.types.specs.declared.Action.{Action}
use Rattle.rules.specs.Script.{Header, Item, end, item}
use Rattle.script_places.specs.declared.BadAt.{BadAt}
use Rattle.script_places.specs.Says.{reading_says}
use Rattle.script_records.specs.declared.Header as held
use Rattle.script_records.specs.Views.{header_read, action_read}
use Rattle.script_records.specs.Says.{header_says, action_says}

header-law : (m : Reading Header) → header_says (header_read m) ≡ reading_says m
header-law (read h xs p) = refl
header-law (bad_at p) = refl

pub header-tells : (m : Reading Header) {r : Result (held.Header × ℕ) BadAt} → r ≡ header_read m → header_says r ≡ reading_says m
header-tells m e = ap header_says e ∙ header-law m

action-law : (m : Reading Item) → action_says (action_read m) ≡ reading_says m
action-law (read end xs p) = refl
action-law (read (item a) xs p) = refl
action-law (bad_at p) = refl

pub action-tells : (m : Reading Item) {r : Result (Option Action × ℕ) BadAt} → r ≡ action_read m → action_says r ≡ reading_says m
action-tells m e = ap action_says e ∙ action-law m
