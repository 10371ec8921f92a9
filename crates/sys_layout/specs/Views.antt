-- The rows that an actor is laid out as.
-- Assumes nothing.
use Rattle.std.specs.Prelude.{ℕ, ◌≡◌, Bool, true, false, List}
use Rattle.types.specs.declared.Rule.{Rule}
use Rattle.sys_actor.specs.declared.Actor.{Actor}
use Rattle.sys_actor.specs.Views.{actor_view}
use Rattle.sys_rows.specs.declared.ActorRows.{ActorRows}
use Rattle.sys_rows.specs.Rows.{actor_in, RowsLaid}

abbrev pub bit : Bool → ℕ
bit true = 1
bit false = 0

-- Rows that are this actor.
pub record LaidOut (a : Actor) (x : ActorRows) : Type 0 where
  pub actor : (rs : List Rule) → actor_in rs x ≡ actor_view rs a
  pub live : RowsLaid x.live x.pend
  pub kept : RowsLaid x.kept x.stored
