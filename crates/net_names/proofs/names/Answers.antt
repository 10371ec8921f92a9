-- The array of kinds has a kind where the list of names has its name, and none from there on where the list ends.
-- Assumes nothing.
use Rattle.std.proofs.Common.{◌≡◌, [], drop}
use lib.ListN.{drop_of_length-le}
use Rattle.rules.specs.Network.{names}
use Rattle.net_names.proofs.Places.{name_at}
use Rattle.net_names.proofs.names.Goals as goal

pub returns-in_err-kind : goal.returns-in_err-kind
unfolding names
returns-in_err-kind c =
    let past = c.in_err-kind.ensures.lookup.3 in
    let h : drop c.args.index names ≡ [] = drop_of_length-le names past in
    record { value = rw h c.from_residual.ensures; out_after = rw h }

pub returns : goal.returns
returns c =
    let found = c.in_ok-kind.ensures.lookup in
    let h = name_at c.args.index c.in_ok-kind.field-0.now found.3.0 found.1 in
    record { value = rw (h, c.write_name.ensures.value); out_after = rw h c.write_name.ensures.out_after }
