-- Where the network has room for k more entries and k more copies, k sends are not refused: no 8, so nothing to undo.
-- Assumes nothing.
use Prim.Native.Nat.{ℕ, suc, ◌+◌, ◌≤◌}
use native.Mathlib.Omega.{arith}
use mathlib.Core.Path.{◌≡◌, refl, ap}
use mathlib.Core.List.{List, [], ◌∷◌}
use lib.ListN.{length}
use Rattle.types.specs.declared.Id.{Id}
use Rattle.types.specs.declared.Envelope.{Envelope}
use Rattle.types.specs.declared.InnerCommand.{InnerCommand}
use Rattle.types.specs.declared.InnerCommand.TheVariants as inner
use Rattle.rules.specs.Outcome.{done, bind, Room}
use Rattle.rules.specs.Network.{sending, len}
use Rattle.rules.specs.Link.{Command, Set, Cancel, Send, Save}
use Rattle.rules.specs.System.{Sys, with_actor, with_net, run_commands}
use Rattle.link_direct.specs.Direct.{asked, sends}
use Rattle.link_direct.proofs.Roomy.{put-length, put-len, send-goes}

unfoldable pub sent : List Command → ℕ
sent [] = 0
sent (Set t ∷ cs) = sent cs
sent (Cancel t ∷ cs) = sent cs
sent (Save d ∷ cs) = sent cs
sent (Send r m ∷ cs) = suc (sent cs)

pub sent-asked : (n : ℕ) (os : List InnerCommand) → sent (asked n os) ≡ sends os
unfolding sent asked sends
sent-asked n [] = refl
sent-asked n (inner.SetTimer t ∷ os) = sent-asked n os
sent-asked n (inner.CancelTimer t ∷ os) = sent-asked n os
sent-asked n (inner.Save v ∷ os) = sent-asked n os
sent-asked n (inner.Send r p ∷ os) = ap suc (sent-asked (suc n) os)

pub record Runs (c : Room) (i : Id) (cs : List Command) (s : Sys) : Type 0 where
  pub sys : Sys
  pub done-is : run_commands c i cs s ≡ done sys

pub runs : (c : Room) (i : Id) (cs : List Command) (s : Sys)
    → length s.net.entries + sent cs ≤ c.entries → len s.net.entries + sent cs ≤ c.copies → Runs c i cs s
unfolding run_commands sent bind sending with_actor with_net
runs c i [] s h k = record { sys = s; done-is = refl }
runs c i (Set t ∷ cs) s h k = let g = runs c i cs _ h k in record { sys = g.sys; done-is = g.done-is }
runs c i (Cancel t ∷ cs) s h k = let g = runs c i cs _ h k in record { sys = g.sys; done-is = g.done-is }
runs c i (Save d ∷ cs) s h k = let g = runs c i cs _ h k in record { sys = g.sys; done-is = g.done-is }
runs c i (Send r m ∷ cs) s h k =
    let e : Envelope = record { src = i; dst = r; msg = m } in
    let a = put-length s.net.kind e s.net.entries in
    let b = put-len s.net.kind e s.net.entries in
    let z = send-goes c e s.net (omega arith) (omega arith) in
    let g = runs c i cs (with_net (sending e s.net) s) (omega arith) (omega arith) in
    record { sys = g.sys; done-is = rw z g.done-is }
