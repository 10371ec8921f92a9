-- A part that fails decides, and the last one decides where the others hold.
-- Assumes nothing.
use Rattle.std.proofs.Common.{false, sym, ◌∙◌}
use borrow.Author.Tests.{le-leb, lt-leb}
use Rattle.sys_system.proofs.Types.{system-says}
use Rattle.sys_formed.proofs.Parts.{told}
use Rattle.sys_formed.proofs.well_formed.Goals as goal
use Rattle.sys_formed.proofs.well_formed.Goals.{
  then-count-lt1-via-then-count-lt1,
  then-count-lt1-via-else-count-lt1+then-count-gt-MOST_ACTORS,
  then-count-lt1-via-else-count-lt1+else-count-gt-MOST_ACTORS+then-not-net_ok,
}

pub returns-then-count-lt1 : goal.returns-then-count-lt1
returns-then-count-lt1 c =
    let s = c.args.s in
    let told = told s (system-says s _ c.well_formed.0) false (elim c.then-count-lt1.branch [
      | then-count-lt1-via-then-count-lt1 w ↦ rw (lt-leb _ _ w.if-count-lt1.true)
      | then-count-lt1-via-else-count-lt1+then-count-gt-MOST_ACTORS w ↦ rw (le-leb _ _ w.if-count-lt1.false, lt-leb _ _ w.if-count-gt-MOST_ACTORS.true)
      | then-count-lt1-via-else-count-lt1+else-count-gt-MOST_ACTORS+then-not-net_ok w ↦ rw (
        le-leb _ _ w.if-count-lt1.false,
        le-leb _ _ w.if-count-gt-MOST_ACTORS.false,
        sym w.net_ok.ensures.value ∙ w.if-not-net_ok.true,
      )
    ]) in
    record { value = told.0; laid = told.1 }

pub returns-then-used_ok : goal.returns-then-used_ok
returns-then-used_ok c =
    let s = c.args.s in
    let used = rw (c.split_at.ensures.front, c.split_at-2.ensures.front) at (sym c.used_ok.ensures ∙ c.if-used_ok.true) in
    let free = rw (c.split_at.ensures.back, c.split_at-2.ensures.back) at (sym c.free_ok.ensures) in
    let told = told s (system-says s _ c.well_formed.0) c.free_ok.result (rw (
      le-leb _ _ c.if-count-lt1.false,
      le-leb _ _ c.if-count-gt-MOST_ACTORS.false,
      sym c.net_ok.ensures.value ∙ c.if-not-net_ok.false,
      used,
    ) free) in
    record { value = told.0; laid = told.1 }

pub returns-else-used_ok : goal.returns-else-used_ok
returns-else-used_ok c =
    let s = c.args.s in
    let used = rw (c.split_at.ensures.front, c.split_at-2.ensures.front) at (sym c.used_ok.ensures ∙ c.if-used_ok.false) in
    let told = told s (system-says s _ c.well_formed.0) c.used_ok.result (rw (
      le-leb _ _ c.if-count-lt1.false,
      le-leb _ _ c.if-count-gt-MOST_ACTORS.false,
      sym c.net_ok.ensures.value ∙ c.if-not-net_ok.false,
      used,
    ) (sym c.if-used_ok.false)) in
    record { value = told.0; laid = told.1 }
