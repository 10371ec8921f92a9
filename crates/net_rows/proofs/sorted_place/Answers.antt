-- The search finds the one cell that can be equal. Where it is missing, all entries differ.
-- Assumes nothing.
use Rattle.std.proofs.Common.{sym, ap, ◌∙◌}
use Rattle.std.specs.Result.{result_unwrap_or}
use Rattle.net_rows.proofs.Laws.{sized}
use Rattle.net_rows.proofs.Lookup.{told_place}
use Rattle.net_rows.specs.Views.{entry_list}
use Rattle.net_rows.specs.Parts.{envelope_in}
use Rattle.net_rows.proofs.sorted_place.Goals as goal

pub returns : goal.returns
returns c =
    let a = c.args in
    c.unwrap_or.ensures ∙ ap (λ r. result_unwrap_or r a.used) c.look_up.ensures
    ∙ told_place (envelope_in a.k) (entry_list a.c.now a.used) c.requires.2 a.used (sym (sized c.requires.0))
