-- The rows from the place on are moved one place on, and the place is written.
-- Assumes nothing.
use Rattle.std.proofs.Common.{ap, set, length-set, take, ◌+◌, ◌∙◌}
use Rattle.rows.proofs.Laws.{inserted}
use Rattle.rows.proofs.insert_at.Goals as goal

pub returns : goal.returns
returns c =
    let a = c.args in
    let e = c.copy_within.ensures in (
      ap (λ l. take (a.used + 1) (set l a.at a.k)) e.after ∙ inserted a.c.now a.used a.at a.k c.requires.0 c.requires.1,
      length-set c.copy_within.new.self a.at a.k ∙ e.len,
    )
