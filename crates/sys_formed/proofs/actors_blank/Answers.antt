-- Each is tested for zero.
-- Assumes nothing.
use Rattle.std.proofs.Common.{rules, sym, ◌∙◌}
use Rattle.std.proofs.lemmas.Iterator.{YieldsList-from_slice}
use Rattle.std.proofs.lemmas.Iterator.Search.{all_from_yields_List}
use borrow.Author.Tests.{tests}
use Rattle.lists.proofs.Library.{all-is}
use Rattle.sys_actor.specs.Views.{blank_actor}
use Rattle.sys_formed.proofs.actors_blank.Goals as goal

pub returns : goal.returns
returns c =
    all_from_yields_List blank_actor _ _ _ c.all.ensures.ran (YieldsList-from_slice c.args.actors.now cc) (λ x b q k. search (rules, tests))
    ∙ sym (all-is blank_actor c.args.actors.now)
