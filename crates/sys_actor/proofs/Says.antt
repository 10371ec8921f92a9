-- What the type of an actor says of its value: how long its arrays are, and that its timers are a word of 32 bits.
-- Assumes nothing.
use mathlib.Core.List.{List}
use mir.Val.{Val}
use denote.Shadow.{shadow}
use borrow.Author.Rules.{rules}
use Rattle.lists.proofs.Places.{length-mapped}
use Rattle.sys_actor.specs.declared.Actor.{Actor}
use Rattle.sys_actor.specs.contracts.Actor as actor
use Rattle.sys_actor.proofs.Laws.{Typed}

pub actor-says : (a : Actor) (u : List Val) → shadow ((actor.the_row).own_val a u) → Typed a
actor-says a u g =
    let l = g.1.1.1.1.0.1.1.0 in let s = g.1.1.1.1.1.0.1.1.1.0 in
    record {
      pending = search (rules, length-mapped, l.1.1.1.0);
      taken = search (rules, length-mapped, l.1.1.1.1.0);
      stored-pending = search (rules, length-mapped, s.1.1.1.0);
      stored-taken = search (rules, length-mapped, s.1.1.1.1.0);
      word = search (rules, g.1.1.1.0);
    }
