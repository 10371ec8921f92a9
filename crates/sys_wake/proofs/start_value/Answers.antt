-- What the search leaves open of `start_value`.
use Rattle.sys_wake.proofs.Loads.{value_none, value-some}
use Rattle.sys_wake.proofs.start_value.Goals as goal

pub returns-then-live-eq0 : goal.returns-then-live-eq0
returns-then-live-eq0 c = value_none c.args.live.now c.if-live-eq0.true

pub returns-else-live-eq0 : goal.returns-else-live-eq0
returns-else-live-eq0 c = value-some c.args.live.now c.if-live-eq0.false
