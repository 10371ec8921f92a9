-- Each field is compared, and the places of any rule are as many as those of the zero rule.
use borrow.Author.Rules.{rules}
use lib.ListN.{length}
use Rattle.lists.proofs.Places.{length-mapped}
use Rattle.types.specs.Capacities.{most_commands}
use mathlib.Core.Path.{◌≡◌, ◌∙◌}
use Rattle.link_inner.proofs.Tables.{zero-same}
use Rattle.link_inner.proofs.is_blank.Goals as goal

pub returns : goal.returns
returns c =
    let n : length c.args.r.commands ≡ most_commands = search (rules, length-mapped, c.well_formed.0.1.1.1.1) in
    c.eq.ensures ∙ rw c.zero_rule.ensures (zero-same c.args.r n)
