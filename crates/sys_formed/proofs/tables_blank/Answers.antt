-- Each is tested for zero.
-- Assumes nothing.
use Rattle.std.proofs.Common.{rules, sym, ◌∙◌}
use Rattle.std.proofs.lemmas.Iterator.{YieldsList-from_slice}
use Rattle.std.proofs.lemmas.Iterator.Search.{all_from_yields_List}
use borrow.Author.Tests.{tests}
use Rattle.lists.proofs.Library.{all-is}
use Rattle.sys_system.specs.Views.{blank_table}
use Rattle.sys_formed.proofs.tables_blank.Goals as goal

pub returns : goal.returns
returns c =
    all_from_yields_List blank_table _ _ _ c.all.ensures.ran (YieldsList-from_slice c.args.tables.now cc) (λ x b q k. search (rules, tests))
    ∙ sym (all-is blank_table c.args.tables.now)
