-- Where something is stored its test decides. Where nothing is, the part must be laid out and zero.
use Rattle.std.proofs.Common.{rules, sym, ◌∙◌}
use Rattle.lists.specs.Lists.{every}
use Rattle.link_durable.proofs.Kept.{stored_some, stored-none}
use Rattle.link_durable.proofs.stored_ok.Goals as goal

pub returns-then-s : goal.returns-then-s
returns-then-s c = c.durable_ok.ensures ∙ sym (stored_some _ _ c.if-s.true)

pub returns-then-durable_laid : goal.returns-then-durable_laid
unfolding every
returns-then-durable_laid c = rw (stored-none c.args.actors c.args.s c.if-s.false) (search rules)

pub returns-else-durable_laid : goal.returns-else-durable_laid
unfolding every
returns-else-durable_laid c = rw (stored-none c.args.actors c.args.s c.if-s.false) (search rules)
