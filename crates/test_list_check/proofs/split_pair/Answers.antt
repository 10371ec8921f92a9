-- What the search leaves open of `split_pair`: a part, and the part behind it.
-- Assumes nothing.
use Rattle.std.proofs.Common.{◌≡◌, rules}
use Rattle.test_list_check.specs.List.{pair_size}
use Rattle.test_list_check.proofs.Laws.{none_behind, pair_made}
use Rattle.test_list_check.proofs.split_pair.Goals as goal

pub returns-in_err-output : goal.returns-in_err-output
returns-in_err-output c =
    let n : pair_size c.args.list.now ≡ 0 = none_behind c.in_ok-script.ensures c.in_err-output.ensures in
    search (rules, n)

pub returns : goal.returns
returns c = pair_made c.in_ok-script.ensures c.in_ok-output.ensures
