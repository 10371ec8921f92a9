-- What the opening's answer holds is what was read, and it fits its arrays; so the start is that of the lists.
use mathlib.Core.Path.{sym, ap, ◌∙◌}
use Rattle.rules.specs.Script.{versions, opening_from}
use Rattle.script_opening.specs.Views.{opening_held}
use Rattle.script_opening.proofs.Readings.{missed}
use Rattle.replay_start.specs.Views.{opened_of}
use Rattle.replay_start.proofs.Laws.{opened-is}
use Rattle.replay_start.proofs.open.Goals as goal

pub returns-in-Err : goal.returns-in-Err
returns-in-Err c =
    let s = c.args.script.now in
    c.unreadable.ensures ∙ sym (ap opened_of (missed opening_held (opening_from versions) s 0 c.in-Err.ensures.value))

pub returns : goal.returns
returns c = opened-is c.args.script.now c.in-Ok.ensures.value c.start-answered.ensures
