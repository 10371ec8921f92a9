-- `link_layout::read_in` meets its contract. Up to i stands what is read off the items up to i, the others are zero, and the reader is as it was.
-- Assumes nothing.
use Rattle.std.proofs.Common.{◌≡◌, map, take, ◌-◌, length}
use denote.Ref.{Bor}
use Rattle.lists.specs.Lists.{pad}
use Rattle.link_layout.proofs.read_in.Given as goal

abbrev pub invariant-loop-i : goal.invariant-loop-i
invariant-loop-i g l =
    (r : g.row.S.Denot → g.row.T.Denot)
    → ((f h : g.row.F.Denot) (x : Bor g.row.S.Denot) (y : g.row.T.Denot) → goal.F-step g f x y h → (h ≡ f) × (y ≡ r x.now))
    → (l.read ≡ l.initial.read) × (l.places ≡ pad g.row.N l.fn.zero (map r (take l.i l.items)))

abbrev pub decreases-loop-i : goal.decreases-loop-i
decreases-loop-i g l = length l.items - l.i
