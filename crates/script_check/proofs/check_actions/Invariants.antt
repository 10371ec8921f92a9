-- Each action that is read leaves the layout to what follows it, and the place goes up: it is at most the script's length. At the end nothing
-- may be left.
-- The layout from the first place on is that from this place on.
use Prim.Native.Nat.{◌-◌}
use mathlib.Core.Path.{◌≡◌}
use lib.ListN.{length, drop}
use Rattle.rules.specs.Script.{actions_from}
use Rattle.script_check.specs.Views.{layout_of}
use Rattle.script_check.proofs.check_actions.Given as goal

abbrev pub invariant-loop-action : goal.invariant-loop-action
invariant-loop-action l = layout_of (actions_from l.f (drop l.from l.script) l.from) ≡ layout_of (actions_from l.f (drop l.at l.script) l.at)

abbrev pub decreases-loop-action : goal.decreases-loop-action
decreases-loop-action l = length l.script - l.at
