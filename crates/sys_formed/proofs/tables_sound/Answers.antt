-- Each is tested as a table.
-- Assumes nothing.
use Rattle.std.proofs.Common.{rules, sym, ◌∙◌}
use Rattle.std.proofs.lemmas.Iterator.{YieldsList-from_slice}
use Rattle.std.proofs.lemmas.Iterator.Search.{all_from_yields_List}
use borrow.Author.Tests.{tests}
use Rattle.lists.proofs.Library.{all-is}
use Rattle.link_inner.specs.Views.{table_ok}
use Rattle.sys_formed.proofs.tables_sound.Goals as goal

pub returns : goal.returns
returns c =
    all_from_yields_List table_ok _ _ _ c.all.ensures.ran (YieldsList-from_slice c.args.tables.now cc) (λ x b q k. search (rules, tests))
    ∙ sym (all-is table_ok c.args.tables.now)
