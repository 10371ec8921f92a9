-- The count of 5 bits, at most as many rules as a table has.
use mathlib.Core.Path.{refl}
use lib.ListN.{drop}
use Rattle.layout.specs.Read.{one}
use Rattle.rules.specs.Script.{rule_count_form}
use Rattle.script_places.specs.Views.{same}
use Rattle.script_places.proofs.Says.{tells}
use Rattle.script_records.proofs.read_rule_count.Goals as goal

pub returns : goal.returns
unfolding rule_count_form
returns c =
    let a = c.args in record {
      value = c.read_count.ensures;
      says = tells same same (λ n. refl) (one rule_count_form (drop a.at a.script.now) a.at) c.read_count.ensures;
    }
