-- `link_layout::durable_of` meets its contract. Its parts are read off one by one.
-- Assumes nothing.
use Rattle.std.proofs.Common.{ℕ, ap, ◌∙◌, map, take, drop, arith}
use Rattle.link_durable.specs.Views.{taken_as}
use Rattle.link_rows.specs.Rows.{number_in}
use Rattle.link_layout.proofs.Laws.{durable-read}
use Rattle.link_layout.proofs.durable_of.Goals as goal

pub returns : goal.returns
returns c =
    let a = c.args in
    let w = a.row.now in
    durable-read w a.rows.now _ _ _ c.pendings_of.ensures
    (c.taken_of.ensures ∙ ap (λ (k : ℕ). taken_as (map number_in (take k (drop 8 w)))) (omega arith)) c.storage_of.ensures
