-- `sys_rows::take_number` meets its contract. By whether the source is among those that are counted.
-- Assumes nothing.
use native.Mathlib.Omega.{arith}
use Rattle.sys_rows.proofs.Sources.{count_kept, noticed-within, noticed-beyond}
use Rattle.sys_rows.proofs.take_number.Goals as goal

pub returns-then-live-source : goal.returns-then-live-source
returns-then-live-source c =
    let a = c.args in
    let z = count_kept a.live.now a.source a.number c.requires.0 c.requires.1 c.requires.2 in
    noticed-beyond a.live.now a.source a.number c.requires.0 c.requires.1 c.requires.2 (omega arith)

pub returns-else-live-source : goal.returns-else-live-source
returns-else-live-source c =
    let a = c.args in
    let z = count_kept a.live.now a.source a.number c.requires.0 c.requires.1 c.requires.2 in
    noticed-within a.live.now a.source a.number c.requires.0 c.requires.1 c.requires.2 (omega arith)
