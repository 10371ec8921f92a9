-- Only the network and one seat are touched, and they are put back.
use mathlib.Core.Path.{◌∙◌}
use Rattle.sys_formed.proofs.Outside.{no-actor, no_table}
use Rattle.sys_step.proofs.Laws.{below, touchable, act-done}
use borrow.Author.Rules.{rules}
use Rattle.sys_step.proofs.act_on.Goals as goal

-- the seat is a place of the arrays
pub offset_bounds-s-i : goal.offset_bounds-s-i
offset_bounds-s-i c =
    let h = below c.args.s c.requires c.args.a _ c.seat-i.ensures no-actor no_table in
    search (rules, h)

pub bounds-s-i : goal.bounds-s-i
bounds-s-i c =
    below c.args.s c.requires c.args.a _ c.seat-i.ensures no-actor no_table

pub offset_bounds-s-i-2 : goal.offset_bounds-s-i-2
offset_bounds-s-i-2 c =
    let h = below c.args.s c.requires c.args.a _ c.seat-i.ensures no-actor no_table in
    search (rules, h)

pub bounds-s-i-2 : goal.bounds-s-i-2
bounds-s-i-2 c =
    below c.args.s c.requires c.args.a _ c.seat-i.ensures no-actor no_table

pub touch-t-requires : goal.touch-t-requires
touch-t-requires c =
    touchable c.args.s c.requires c.args.a _ c.seat-i.ensures no-actor no_table

pub put_back-requires : goal.put_back-requires
put_back-requires c =
    below c.args.s c.requires c.args.a _ c.seat-i.ensures no-actor no_table

pub returns : goal.returns
returns c =
    c.put_back.ensures
    ∙ act-done c.args.s c.requires c.args.a _ c.seat-i.ensures no-actor no_table
    c.touch-t.result c.touch-t.ensures
