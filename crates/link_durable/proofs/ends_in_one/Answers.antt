-- What the search leaves open of `ends_in_one`.
use Rattle.std.proofs.Common.{rules, leb}
use Rattle.link_durable.proofs.Tests.{last-ends}
use Rattle.link_durable.proofs.ends_in_one.Goals as goal

pub returns : goal.returns
returns c = last-ends (λ n. leb 1 n.0) c.args.taken.now c.is_none_or.result c.last.result c.last.ensures.value (search rules)
