-- What the search leaves open of `with_network`.
use mathlib.Core.Path.{ap, ◌∙◌}
use Rattle.link_timers.specs.declared.Change.{Change}
use Rattle.link_timers.specs.Views.{listed}
use Rattle.link_timers.proofs.Listed.{listed-set}
use Rattle.sys_wake.proofs.with_network.Goals as goal

pub returns : goal.returns
returns c = ap (λ (h : Change). listed h.timers.0) c.set.ensures ∙ listed-set _ _
