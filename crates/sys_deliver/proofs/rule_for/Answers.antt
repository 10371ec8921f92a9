-- Not newer, or else as the rules decide.
use native.Mathlib.Omega.{arith}
use Rattle.sys_deliver.proofs.Chosen.{taker-old, taker-new}
use Rattle.sys_deliver.proofs.rule_for.Goals as goal

pub returns-then-number-last : goal.returns-then-number-last
returns-then-number-last c =
    let a = c.args in
    λ source. taker-old a.number a.last a.state source a.payload a.table.now.rows a.table.now.used c.if-number-last.true

pub deciding-requires : goal.deciding-requires
deciding-requires c = (c.requires.0, omega arith, let z = c.requires.1 in omega arith)

pub returns-else-number-last : goal.returns-else-number-last
returns-else-number-last c =
    let a = c.args in
    λ source. taker-new a.number a.last a.state source a.payload a.table.now.rows a.table.now.used (omega arith) c.deciding.result
    (c.deciding.ensures source)
