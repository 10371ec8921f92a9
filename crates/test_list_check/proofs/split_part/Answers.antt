-- `split_part` meets its contract: both sides of the test are those of the definition.
-- Assumes nothing.
use Rattle.std.proofs.Common.{sym, arith}
use Rattle.test_list_check.proofs.Laws.{part_cut, part_made}
use Rattle.test_list_check.proofs.split_part.Goals as goal

pub returns-then-list-end : goal.returns-then-list-end
returns-then-list-end c = sym (part_cut _ c.field32.ensures (omega arith))

pub returns : goal.returns
returns c = part_made c.args.list.now c.field32.ensures (omega arith)
