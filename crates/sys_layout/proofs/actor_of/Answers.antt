-- `sys_layout::actor_of` meets its contract. Its parts are read off one by one; a word of timers is the set that it lists.
-- Assumes nothing.
use native.Mathlib.Omega.{arith}
use mathlib.Core.Path.{refl}
use Rattle.sys_rows.proofs.Laws.{timers-small, state-small}
use Rattle.sys_layout.proofs.Laws.{readable, actor-read}
use Rattle.sys_layout.proofs.actor_of.Goals as goal

pub durable_of-requires : goal.durable_of-requires
durable_of-requires c = readable _ _ c.requires.0

pub overflow_cast-result : goal.overflow_cast-result
overflow_cast-result c =
    let h = timers-small c.args.rows.now.live c.args.rows.now.pend c.requires.0 in
    record { fits = h }

pub overflow_cast-result-2 : goal.overflow_cast-result-2
overflow_cast-result-2 c =
    let h = state-small c.args.rows.now.live c.args.rows.now.pend c.requires.0 in
    record { fits = omega arith }

pub returns : goal.returns
returns c =
    let a = c.args in
    actor-read a.rows.now.live a.rows.now.pend a.rows.now.kept a.rows.now.stored c.requires.0 _ _ _ refl c.durable_of.ensures
    c.stored_of.ensures
