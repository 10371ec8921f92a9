-- No rules are sound, so that a table without any is tested as a table.
-- Assumes nothing.
use mathlib.Core.Path.{sym, ◌∙◌}
use borrow.Author.Tests.{ne_eqb}
use Rattle.lists.specs.Lists.{every}
use Rattle.sys_system.specs.Views.{blank_table}
use Rattle.sys_system.proofs.Tables.{blank_ok}
use Rattle.sys_formed.proofs.blank_table.Goals as goal

pub returns-then-t-eq0 : goal.returns-then-t-eq0
returns-then-t-eq0 c = c.sound_table.ensures ∙ sym (blank_ok c.args.t c.if-t-eq0.true)

pub returns-else-t-eq0 : goal.returns-else-t-eq0
unfolding blank_table every
returns-else-t-eq0 c = simp (ne_eqb c.args.t.used 0 c.if-t-eq0.false)
