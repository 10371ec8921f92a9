-- Its source decides: 2 where there is none, and else Ignored.
use mathlib.Core.Path.{sym, ap, ◌∙◌}
use mathlib.Core.Bool.{Bool}
use Rattle.lists.specs.Lists.{choose}
use Rattle.answers.specs.Answers.{Ignored, OutOfRange}
use Rattle.sys_act.proofs.unheard.Goals as goal

pub returns-then-known : goal.returns-then-known
unfolding choose
returns-then-known c = sym (ap (λ (b : Bool). choose b Ignored OutOfRange) (sym c.known.ensures ∙ c.if-known.true))

pub returns-else-known : goal.returns-else-known
unfolding choose
returns-else-known c = sym (ap (λ (b : Bool). choose b Ignored OutOfRange) (sym c.known.ensures ∙ c.if-known.false))
