-- What the search leaves open of `on_ack`.
use mathlib.Core.Path.{refl, sym, ◌∙◌}
use Rattle.sys_moves.specs.Views.{Rows, rows_in}
use Rattle.sys_moves.proofs.Messages.{ack-absent, ack-done}
use Rattle.sys_moves.proofs.on_ack.Goals as goal

pub returns-then-not-is_done : goal.returns-then-not-is_done
returns-then-not-is_done c =
    let a = c.args in
    let x : Rows = rows_in a.net.now.cells a.actor.now in
    record {
      rows = ack-absent a.net.now.kind a.e a.number x a.net.now.used a.net.now.len c.requires c.on_deliver-s.result c.on_deliver-s.new.c
          c.on_deliver-s.ensures (sym c.is_done.ensures ∙ c.if-not-is_done.true);
      kind = refl;
    }

pub returns : goal.returns
returns c =
    let a = c.args in
    let x : Rows = rows_in a.net.now.cells a.actor.now in
    record {
      rows = rw (c.store.ensures.live, c.store.ensures.pend) (ack-done a.net.now.kind a.e a.number x a.net.now.used a.net.now.len c.requires
          c.on_deliver-s.result
          c.on_deliver-s.new.c
          c.on_deliver-s.ensures
          (sym c.is_done.ensures
          ∙ c.if-not-is_done.false)
          c.settle_ack.new.self.live c.settle_ack.new.self.pend
          c.settle_ack.ensures.live c.store.new.self.kept c.store.new.self.stored c.store.ensures.kept);
      kind = refl;
    }
