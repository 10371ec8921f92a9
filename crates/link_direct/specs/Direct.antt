-- What an inner actor's commands ask of network and timers, and what they make of the durable part.
-- Assumes nothing.
use Rattle.std.specs.Prelude.{ℕ, suc, List, [], ◌∷◌}
use Rattle.types.specs.declared.Message.TheVariants.{Deliver}
use Rattle.types.specs.declared.InnerCommand.{InnerCommand}
use Rattle.types.specs.declared.InnerCommand.TheVariants as inner
use Rattle.rules.specs.Link.{Durable, Command, Set, Cancel, Send, posting, with_inner}

-- How many messages the commands send.
unfoldable pub sends : List InnerCommand → ℕ
sends [] = 0
sends (inner.SetTimer t ∷ os) = sends os
sends (inner.CancelTimer t ∷ os) = sends os
sends (inner.Save v ∷ os) = sends os
sends (inner.Send r p ∷ os) = suc (sends os)

-- What they ask of network and timers, where n is the next number.
unfoldable pub asked : ℕ → List InnerCommand → List Command
asked n [] = []
asked n (inner.SetTimer t ∷ os) = Set t ∷ asked n os
asked n (inner.CancelTimer t ∷ os) = Cancel t ∷ asked n os
asked n (inner.Save v ∷ os) = asked n os
asked n (inner.Send r p ∷ os) = Send r (Deliver (record { 0 = n }) p) ∷ asked (suc n) os

-- The durable part after them.
unfoldable pub noted : List InnerCommand → Durable → Durable
noted [] d = d
noted (inner.SetTimer t ∷ os) d = noted os d
noted (inner.CancelTimer t ∷ os) d = noted os d
noted (inner.Save v ∷ os) d = noted os (with_inner v d)
noted (inner.Send r p ∷ os) d = noted os (posting r p d)
