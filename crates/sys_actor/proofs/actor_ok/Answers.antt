-- A part that fails decides, and the other one decides where the first holds.
-- Assumes nothing.
use Rattle.std.proofs.Common.{sym, ◌∙◌}
use Rattle.sys_actor.proofs.Laws.{told-fine}
use Rattle.sys_actor.proofs.Says.{actor-says}
use Rattle.sys_actor.proofs.actor_ok.Goals as goal

pub returns-then-link_ok : goal.returns-then-link_ok
returns-then-link_ok c =
    let first = sym c.link_ok.ensures ∙ c.if-link_ok.true in
    let told = told-fine c.args.a (actor-says c.args.a _ c.well_formed.0) c.rest_ok.result c.args.actors (rw first (sym c.rest_ok.ensures)) in
    record { value = told.0; laid = told.1 }

pub returns-else-link_ok : goal.returns-else-link_ok
returns-else-link_ok c =
    let first = sym c.link_ok.ensures ∙ c.if-link_ok.false in
    let told = told-fine c.args.a (actor-says c.args.a _ c.well_formed.0) c.link_ok.result c.args.actors (rw first (sym c.if-link_ok.false)) in
    record { value = told.0; laid = told.1 }
