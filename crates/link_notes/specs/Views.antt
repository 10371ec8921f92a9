-- What inner commands leave of the rows of a durable part.
-- Assumes nothing.
use Rattle.std.specs.Prelude.{ℕ, ◌+◌, ◌≡◌, List, drop, get_or}
use Rattle.types.specs.declared.InnerCommand.{InnerCommand}
use Rattle.link_rows.specs.Rows.{durable_in, HeadLaid}
use Rattle.link_direct.specs.Direct.{noted, sends}

pub record Noted (os : List InnerCommand) (w : List ℕ) (p : List (List ℕ)) (w' : List ℕ) (p' : List (List ℕ)) : Type 0 where
  pub durable : durable_in w' p' ≡ noted os (durable_in w p)
  pub places : get_or w' 1 0 ≡ get_or w 1 0 + sends os
  pub numbers : get_or w' 0 0 ≡ get_or w 0 0 + sends os
  pub after : drop 4 w' ≡ drop 4 w
  pub head : HeadLaid w p → HeadLaid w' p'
