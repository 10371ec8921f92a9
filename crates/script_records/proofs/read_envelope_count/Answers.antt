-- The count of the format's own width and bound.
use mathlib.Core.Path.{refl}
use lib.ListN.{drop}
use Rattle.layout.specs.Read.{one}
use Rattle.rules.specs.Script.{envelope_count_form}
use Rattle.script_places.specs.Views.{same}
use Rattle.script_places.proofs.Says.{tells}
use Rattle.script_records.proofs.read_envelope_count.Goals as goal

pub returns : goal.returns
unfolding envelope_count_form
returns c =
    let a = c.args in record {
      value = c.read_count.ensures;
      says = tells same same (λ n. refl) (one (envelope_count_form a.f) (drop a.at a.script.now) a.at) c.read_count.ensures;
    }
