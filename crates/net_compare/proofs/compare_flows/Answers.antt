-- The derived order of pairs, and the definition's, number by number. Nothing follows the last.
-- Assumes nothing.
use mathlib.Core.Path.{ap, sym, ◌∙◌}
use Rattle.types.specs.Order.{cmp_n, and_then, cmp_flow}
use Rattle.types.proofs.Laws.{and_then-equal}
use Rattle.net_compare.proofs.compare_flows.Goals as goal

pub returns : goal.returns
unfolding cmp_flow
returns c = c.cmp.ensures ∙ ap (and_then (cmp_n c.args.a.src.0 c.args.b.src.0)) (sym (and_then-equal _))
