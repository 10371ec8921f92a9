-- A seat beyond the count is taken as the first, since nothing there is touched.
use mathlib.Core.Path.{sym, ◌∙◌}
use Rattle.sys_act.proofs.Acts.{seat-known, seat-none}
use Rattle.sys_act.proofs.seat.Goals as goal

pub returns-then-known : goal.returns-then-known
returns-then-known c =
    let s = c.args in
    seat-known s.count s.a _ c.actor_of-i.ensures (sym c.known.ensures ∙ c.if-known.true)

pub returns-else-known : goal.returns-else-known
returns-else-known c =
    let s = c.args in
    seat-none s.count s.a _ c.actor_of-i.ensures (sym c.known.ensures ∙ c.if-known.false)
