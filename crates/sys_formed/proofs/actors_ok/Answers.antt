-- Each is tested as one of so many actors.
-- Assumes nothing.
use Rattle.std.proofs.Common.{rules, sym, ◌∙◌}
use Rattle.std.proofs.lemmas.Iterator.{YieldsList-from_slice}
use Rattle.std.proofs.lemmas.Iterator.Search.{all_from_yields_List}
use borrow.Author.Tests.{tests}
use Rattle.lists.proofs.Library.{all-is}
use Rattle.sys_actor.specs.Views.{actor_fine}
use Rattle.sys_formed.proofs.actors_ok.Goals as goal

pub returns : goal.returns
returns c =
    all_from_yields_List (actor_fine c.args.count) _ _ _ c.all.ensures.ran (YieldsList-from_slice c.args.actors.now cc) (λ x b q k. search (rules, tests))
    ∙ sym (all-is (actor_fine c.args.count) c.args.actors.now)
