-- A part that fails decides, and the other one decides where the first holds.
-- Assumes nothing.
use Rattle.std.proofs.Common.{sym, ◌∙◌}
use Rattle.sys_actor.proofs.Laws.{told_blank}
use Rattle.sys_actor.proofs.Says.{actor-says}
use Rattle.sys_actor.proofs.blank_actor.Goals as goal

pub returns-then-marks_zero : goal.returns-then-marks_zero
returns-then-marks_zero c =
    let first = sym c.marks_zero.ensures ∙ c.if-marks_zero.true in
    let told = told_blank c.args.a (actor-says c.args.a _ c.well_formed.0) c.parts_zero.result (rw first (sym c.parts_zero.ensures)) in
    record { value = told.0; zero = told.1 }

pub returns-else-marks_zero : goal.returns-else-marks_zero
returns-else-marks_zero c =
    let first = sym c.marks_zero.ensures ∙ c.if-marks_zero.false in
    let told = told_blank c.args.a (actor-says c.args.a _ c.well_formed.0) c.marks_zero.result (rw first (sym c.if-marks_zero.false)) in
    record { value = told.0; zero = told.1 }
