-- It is the reading at place 0, in the format of the version.
use mathlib.Core.Path.{sym, subst}
use Rattle.rules.specs.Script.{Fine}
use Rattle.rules.proofs.Formats.{formats-fine}
use Rattle.script_records.proofs.take_action.Goals as goal

pub read_action-requires : goal.read_action-requires
read_action-requires c = subst Fine (sym c.format_of.ensures) (formats-fine _)
