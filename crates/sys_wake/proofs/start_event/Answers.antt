-- What the search leaves open of `start_event`.
use Rattle.sys_wake.proofs.Loads.{event-none, event-some}
use Rattle.sys_wake.proofs.start_event.Goals as goal

pub returns-else-live-eq0 : goal.returns-else-live-eq0
returns-else-live-eq0 c = event-some c.args.live.now c.if-live-eq0.false

pub returns-then-live-eq0 : goal.returns-then-live-eq0
returns-then-live-eq0 c = event-none c.args.live.now c.if-live-eq0.true
