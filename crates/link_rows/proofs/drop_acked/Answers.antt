-- `link_rows::drop_acked` meets its contract. The place of the record is looked for: where there is none nothing changes, else it is taken out.
-- Assumes nothing.
use native.Mathlib.Omega.{arith}
use Prim.Native.Nat.{◌-◌}
use mathlib.Core.Path.{refl}
use lib.ListN.{get_or, take}
use lib.Seq.{length-take-le}
use Rattle.lists.specs.Lists.{lead}
use Rattle.link_rows.specs.Rows.{has_number, other}
use Rattle.link_rows.proofs.Laws.{position-leads, turned-absent, turned-ack, count_set}
use Rattle.link_rows.proofs.drop_acked.Goals as goal

pub returns-in-Some : goal.returns-in-Some
returns-in-Some c =
    let w = c.args.live.now in
    let p = c.args.pend.now in
    let used = take (get_or w 1 0) p in
    let at = position-leads (has_number c.args.number) used _ c.in-Some.ensures in
    let fit = length-take-le (get_or w 1 0) p c.requires.1 in
    let gone = c.remove_at in (
      turned-ack w p c.args.number c.requires.0 c.requires.1 c.in-Some.at at.0 (omega arith) gone.new.c gone.ensures.0,
      omega (arith, count_set w (get_or w 1 0 - 1) c.requires.0),
    )

pub returns-in_default : goal.returns-in_default
returns-in_default c =
    let w = c.args.live.now in
    let p = c.args.pend.now in
    let used = take (get_or w 1 0) p in
    let few = position-leads (has_number c.args.number) used _ c.in_default.ensures in
    let fit = length-take-le (get_or w 1 0) p c.requires.1 in
    (turned-absent w p c.args.number c.requires.0 c.requires.1 (lead (other c.args.number) used) refl (omega arith), omega arith)
