-- What the search leaves open of `start_row`.
use Rattle.sys_wake.proofs.Loads.{row-found, row-none}
use Rattle.sys_wake.proofs.start_row.Goals as goal

pub returns-then-at-table : goal.returns-then-at-table
returns-then-at-table c =
    let a = c.args in
    row-found a.table.now.rows a.table.now.used a.event a.value c.first_match-at.result c.first_match-at.ensures c.if-at-table.true

pub returns-else-at-table : goal.returns-else-at-table
returns-else-at-table c =
    let a = c.args in
    row-none a.table.now.rows a.table.now.used a.event a.value c.first_match-at.result c.first_match-at.ensures c.if-at-table.false
