-- Each arm ends as its law says, with the actor that the action names at the seat.
use mathlib.Core.Path.{refl, sym, ap, ◌∙◌}
use lib.Dec.{ltb}
use Rattle.types.specs.declared.Id.{Id}
use Rattle.sys_rows.specs.Rows.{listed_rules}
use Rattle.sys_moves.specs.Views.{rows_in, sent_in}
use Rattle.sys_act.specs.Seats.{target}
use Rattle.sys_act.proofs.Acts.{stepped-at, no-timeout, no-crash, no-recover, no-deliver, crashes, drops-on}
use Rattle.sys_act.proofs.act.Goals as goal

pub returns-then-not-here : goal.returns-then-not-here
returns-then-not-here c =
    let a = c.args in
    let x = rows_in a.net.now.cells a.actor.now in
    let rs = listed_rules a.table.now in
    let k = c.known-here.ensures
    ∙ ap (λ (i : Id). ltb i.0 a.count) c.actor_of-i.ensures in
    record {
      rows = (no-deliver a.count rs a.net.now.kind a.net.now.used a.net.now.len x c.requires.0 a.a _ c.in-Deliver.is
          (sym k ∙ c.if-not-here.true)
          _ c.unheard.ensures);
      kind = refl;
    }

pub deliver-requires : goal.deliver-requires
deliver-requires c = c.requires

pub drop-requires : goal.drop-requires
drop-requires c = c.requires.0.net

pub returns-then-not-here-2 : goal.returns-then-not-here-2
returns-then-not-here-2 c =
    let a = c.args in
    let x = rows_in a.net.now.cells a.actor.now in
    let rs = listed_rules a.table.now in
    let k = c.known-here.ensures
    ∙ ap (λ (i : Id). ltb i.0 a.count) c.actor_of-i.ensures in
    record {
      rows = (no-timeout a.count rs a.net.now.kind a.net.now.used a.net.now.len x c.requires.0 a.a _ _ c.in-Timeout.is
          (sym k ∙ c.if-not-here-2.true));
      kind = refl;
    }

pub timeout-requires : goal.timeout-requires
timeout-requires c =
    (c.requires.0, c.requires.1)

pub returns-then-not-here-3 : goal.returns-then-not-here-3
returns-then-not-here-3 c =
    let a = c.args in
    let x = rows_in a.net.now.cells a.actor.now in
    let rs = listed_rules a.table.now in
    let k = c.known-here.ensures
    ∙ ap (λ (i : Id). ltb i.0 a.count) c.actor_of-i.ensures in
    record {
      rows = (no-crash a.count rs a.net.now.kind a.net.now.used a.net.now.len x c.requires.0 a.a _ c.in-Crash.is
          (sym k ∙ c.if-not-here-3.true));
      kind = refl;
    }

pub crash-requires : goal.crash-requires
crash-requires c = c.requires.0.live.room

pub returns-then-not-here-4 : goal.returns-then-not-here-4
returns-then-not-here-4 c =
    let a = c.args in
    let x = rows_in a.net.now.cells a.actor.now in
    let rs = listed_rules a.table.now in
    let k = c.known-here.ensures
    ∙ ap (λ (i : Id). ltb i.0 a.count) c.actor_of-i.ensures in
    record {
      rows = (no-recover a.count rs a.net.now.kind a.net.now.used a.net.now.len x c.requires.0 a.a _ c.in-Recover.is
          (sym k ∙ c.if-not-here-4.true));
      kind = refl;
    }

pub recover-requires : goal.recover-requires
recover-requires c =
    (c.requires.0, c.requires.1)

pub returns-else-not-here : goal.returns-else-not-here
unfolding target
returns-else-not-here c =
    let a = c.args in
    let x = rows_in a.net.now.cells a.actor.now in
    let rs = listed_rules a.table.now in
    let k = c.known-here.ensures
    ∙ ap (λ (i : Id). ltb i.0 a.count) c.actor_of-i.ensures in
    let g = c.deliver in
    record {
      rows = stepped-at a.count rs a.net.now.kind a.net.now.used a.net.now.len x a.a _
          c.in-Deliver.is _ k
          c.if-not-here.false (sent_in g.result g.new.net)
          (rows_in g.new.net.cells g.new.actor) g.ensures.rows;
      kind = g.ensures.kind;
    }

pub returns-in-Drop : goal.returns-in-Drop
returns-in-Drop c =
    let a = c.args in
    let x = rows_in a.net.now.cells a.actor.now in
    let rs = listed_rules a.table.now in
    let g = c.drop in
    record {
      rows = drops-on a.count rs a.net.now.kind a.net.now.used a.net.now.len x c.requires.0 a.a _ c.in-Drop.is
          (sent_in g.result g.new.net) g.new.net.cells g.ensures.0;
      kind = g.ensures.1;
    }

pub returns-else-not-here-2 : goal.returns-else-not-here-2
unfolding target
returns-else-not-here-2 c =
    let a = c.args in
    let x = rows_in a.net.now.cells a.actor.now in
    let rs = listed_rules a.table.now in
    let k = c.known-here.ensures
    ∙ ap (λ (i : Id). ltb i.0 a.count) c.actor_of-i.ensures
    in
    let g = c.timeout in
    record {
      rows = stepped-at a.count rs a.net.now.kind a.net.now.used a.net.now.len x a.a _ c.in-Timeout.is _ k
          c.if-not-here-2.false (sent_in g.result g.new.net)
          (rows_in g.new.net.cells g.new.actor) (g.ensures a.count).rows;
      kind = (g.ensures a.count).kind;
    }

pub returns-else-not-here-3 : goal.returns-else-not-here-3
unfolding target
returns-else-not-here-3 c =
    let a = c.args in
    let x = rows_in a.net.now.cells a.actor.now in
    let rs = listed_rules a.table.now in
    let k = c.known-here.ensures
    ∙ ap (λ (i : Id). ltb i.0 a.count) c.actor_of-i.ensures in
    record {
      rows = (stepped-at a.count rs a.net.now.kind a.net.now.used a.net.now.len x a.a _ c.in-Crash.is _ k
          c.if-not-here-3.false _ _
          (crashes a.count rs a.net.now.kind a.net.now.used a.net.now.len x c.requires.0 _ c.crash.new.live c.crash.ensures _ refl));
      kind = refl;
    }

pub returns-else-not-here-4 : goal.returns-else-not-here-4
unfolding target
returns-else-not-here-4 c =
    let a = c.args in
    let x = rows_in a.net.now.cells a.actor.now in
    let rs = listed_rules a.table.now in
    let k = c.known-here.ensures
    ∙ ap (λ (i : Id). ltb i.0 a.count) c.actor_of-i.ensures
    in
    let g = c.recover in
    record {
      rows = stepped-at a.count rs a.net.now.kind a.net.now.used a.net.now.len x a.a _ c.in-Recover.is _ k
          c.if-not-here-4.false (sent_in g.result g.new.net)
          (rows_in g.new.net.cells g.new.actor) (g.ensures a.count).rows;
      kind = (g.ensures a.count).kind;
    }
