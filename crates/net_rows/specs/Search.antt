-- The order of entries on kinds 1 and 2, and the look-up of an envelope.
-- Assumes nothing.
use Rattle.std.specs.Prelude.{ℕ, Bool, List, Result, Ok, Err}
use Rattle.lists.specs.Lists.{choose, any, lead}
use Rattle.types.specs.declared.Envelope.{Envelope}
use Rattle.types.specs.declared.Entry.{Entry}
use Rattle.types.specs.Order.{cmp_envelope, is_less, same}

-- An entry stands before another.
abbrev pub stands : Entry → Entry → Bool
stands x y = is_less (cmp_envelope x.envelope y.envelope)

-- How many stand before the envelope: `Ok` where an equal entry is there.
unfoldable pub look_up : Envelope → List Entry → Result ℕ ℕ
look_up e l =
    let at = lead (λ x. is_less (cmp_envelope x.envelope e)) l in
    choose (any (λ x. same e x.envelope) l) (Ok at) (Err at)
