-- `sys_layout::stored_of` meets its contract. By the mark: what the rows hold, or nothing, which the zero actor has.
-- Assumes nothing.
use mathlib.Core.Path.{ap}
use Rattle.sys_actor.specs.declared.Actor.{Actor}
use Rattle.sys_layout.proofs.Laws.{readable, stored-none, stored_some}
use Rattle.sys_layout.proofs.stored_of.Goals as goal

pub returns-then-kept-eq0 : goal.returns-then-kept-eq0
returns-then-kept-eq0 c =
    let a = c.args in
    stored-none a.kept.now a.stored.now _ c.if-kept-eq0.true (ap (λ (x : Actor). x.stored) c.zero_actor.ensures)

pub durable_of-requires : goal.durable_of-requires
durable_of-requires c = readable _ _ c.requires

pub returns : goal.returns
returns c =
    let a = c.args in
    stored_some a.kept.now a.stored.now _ c.if-kept-eq0.false c.durable_of.ensures
