-- `link_notes::note_one` meets its contract. By the command: nothing, a value saved, or a message posted.
-- Assumes nothing.
use Rattle.link_direct.proofs.Laws.{sends-one}
use Rattle.link_notes.proofs.Laws.{note-timer, note-save, note-send}
use native.Mathlib.Omega.{arith}
use borrow.Author.Rules.{rules}
use Rattle.link_notes.proofs.note_one.Goals as goal

pub post-requires : goal.post-requires
post-requires c =
    let z = sends-one c.args.x _ _ c.in-Send.is in
    let p = c.requires.0 in
    let q = c.requires.1 in
    let r = c.requires.2 in
    (p, omega arith, omega arith, search rules, search rules)

pub returns-in-SetTimer : goal.returns-in-SetTimer
returns-in-SetTimer c = note-timer c.args.x c.args.live.now c.args.pend.now c.in-SetTimer.is

pub returns-in-Save : goal.returns-in-Save
returns-in-Save c =
    let e = c.save_value in
    note-save c.args.x c.args.live.now c.args.pend.now _ c.in-Save.is
    e.new.live (e.ensures.0 c.args.pend.now) e.ensures.1

pub returns-in-Send : goal.returns-in-Send
returns-in-Send c =
    let e = c.post in
    note-send c.args.x c.args.live.now c.args.pend.now _ _
    c.in-Send.is
    e.new.live e.new.pend e.ensures.0 e.ensures.1
