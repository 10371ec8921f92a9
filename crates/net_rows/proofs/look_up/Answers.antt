-- The search by halves gives the place, and the cell there tells whether it is the envelope's: the entries ascend, so no other can be equal.
-- Assumes nothing.
use native.Mathlib.Omega.{arith}
use mathlib.Core.Path.{◌∙◌}
use Rattle.net_rows.proofs.Laws.{sized}
use Rattle.net_rows.proofs.ByKind.{once-before, before-is, found-is}
use Rattle.net_rows.proofs.Lookup.{is-there, is-missing}
use Rattle.net_rows.specs.Views.{entry_list}
use Rattle.net_rows.specs.Parts.{envelope_in}
use Rattle.net_rows.proofs.look_up.Goals.{else-at-used-via-then-at-used+else-same, else-at-used-via-else-at-used}
use Rattle.net_rows.proofs.look_up.Goals as goal

pub cells_before-at-requires : goal.cells_before-at-requires
cells_before-at-requires c = once-before c.requires.0 c.requires.1 c.requires.2

pub returns-then-same : goal.returns-then-same
returns-then-same c =
    let w = c.cells_before-at in
    let h = c.if-at-used.true in
    (is-there (envelope_in c.args.k) (entry_list c.args.c.now c.args.used) w.result
    (before-is c.requires.0 c.requires.1 w.result w.ensures) (omega (arith, sized c.requires.0))
    (found-is c.requires.0 c.requires.1 w.result h c.same.result c.same.ensures ∙ c.if-same.true)).look

pub returns : goal.returns
returns c =
    let w = c.cells_before-at in
    (is-missing (envelope_in c.args.k) (entry_list c.args.c.now c.args.used) w.result
    (before-is c.requires.0 c.requires.1 w.result w.ensures) c.requires.2
    (λ h. elim c.else-at-used.branch [
      | else-at-used-via-then-at-used+else-same b ↦
          found-is c.requires.0 c.requires.1 w.result b.if-at-used.true b.same.result b.same.ensures ∙ b.if-same.false
      | else-at-used-via-else-at-used b ↦ absurd (omega (arith, sized c.requires.0, b.if-at-used.false))
    ])).look
