-- What a look beyond an array's end would find: zeros, and no array inside.
-- Assumes nothing.
use mathlib.Core.Bool.{false}
use mathlib.Core.List.{[]}
use Rattle.std.specs.Prelude.{None}
use Rattle.link_durable.specs.declared.Durable.{Durable}
use Rattle.link_inner.specs.declared.Table.{Table}
use Rattle.sys_actor.specs.declared.Actor.{Actor}

abbrev no-durable : Durable
no-durable = record { next = record { 0 = 0 }; pending = record { places = []; used = 0 }; taken = record { places = []; used = 0 }; inner = None }

abbrev pub no-actor : Actor
no-actor = record {
  crashed = false;
  timers = record { 0 = 0 };
  link = record { durable = no-durable; state = 0 };
  stored = record { some = false; durable = no-durable };
}

abbrev pub no_table : Table
no_table = record { rules = []; used = 0 }
