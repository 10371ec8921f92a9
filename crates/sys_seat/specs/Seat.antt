-- A step touches the network and one actor. What it does is said of every system that holds them, so that each rule is stated once.
-- Assumes nothing.
use Rattle.std.specs.Prelude.{◌<◌, length, set}
use Rattle.types.specs.declared.Id.{Id}
use Rattle.rules.specs.Network.{Net}
use Rattle.rules.specs.System.{Actor, Sys}

-- A system with a seat for actor i.
pub record Around (i : Id) : Type 0 where
  pub sys : Sys
  pub there : i.0 < length sys.actors

-- The same with this network, and this actor in the seat.
abbrev pub holding : (i : Id) → Around i → Net → Actor → Sys
holding i h n a = record { net = n; actors = set h.sys.actors i.0 a }
