-- What the search leaves open of `taken_of`.
use Rattle.std.proofs.Common.{rules}
use Rattle.link_rows.specs.Rows.{number_in}
use Rattle.link_layout.proofs.taken_of.Goals as goal

pub returns : goal.returns
returns c = c.read_in.ensures number_in (λ f g x y k. search rules)
