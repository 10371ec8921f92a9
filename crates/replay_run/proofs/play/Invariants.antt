-- Each turn is one action: the place goes up by what was read, the rows take the rules' step, and its line is written.
use Prim.Native.Nat.{◌-◌}
use mathlib.Core.Path.{◌≡◌}
use lib.ListN.{length}
use Rattle.sys_all_rows.specs.Views.{sys_of}
use Rattle.replay_run.specs.Views.{run_text}
use Rattle.replay_run.specs.Plays.{Plays}
use Rattle.replay_run.proofs.Laws.{Going}
use Rattle.replay_run.proofs.play.Given as goal

abbrev pub invariant-loop-action : goal.invariant-loop-action
invariant-loop-action l =
    (l.net.kind ≡ l.initial.net.kind)
    × ((p : Plays l.script l.from l.f l.initial.out l.place l.write l.count l.initial.net.kind l.initial.net.used l.initial.net.len
    l.tables l.initial.net.cells l.initial.actors)
    → Going l.script l.f (run_text (sys_of l.count l.initial.net.kind p.last l.initial.net.cells l.initial.net.used l.tables l.initial.actors)
    p.actions)
    l.initial.out l.place l.write l.count l.initial.net.kind l.net.used l.net.len l.tables l.net.cells l.actors l.totals l.at l.end l.out)

abbrev pub decreases-loop-action : goal.decreases-loop-action
decreases-loop-action l =
    length l.script - l.at
