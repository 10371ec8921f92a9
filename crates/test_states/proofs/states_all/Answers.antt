-- What is put stays within the buffer, and the format is one that a version gives.
use mathlib.Core.Path.{sym, subst}
use Rattle.rules.specs.Script.{Fine}
use Rattle.rules.proofs.Formats.{formats-fine}
use borrow.Author.Rules.{rules}
use Rattle.test_states.proofs.states_all.Goals as goal

pub states_from-requires : goal.states_from-requires
states_from-requires c = let fine = subst Fine (sym c.format_of-f.ensures) (formats-fine _) in (fine, search rules)
