-- What is read many times is an envelope.
use Rattle.layout.specs.Read.{one}
use Rattle.rules.specs.Script.{envelope_form}
use Rattle.script_opening.specs.contracts.fn.read_envelopes.read_many as closure
use Rattle.script_opening.proofs.read_envelopes.Given as goal

abbrev pub ghost-read_many : goal.ghost-read_many
ghost-read_many a = one (envelope_form (closure.captures a.read).f)
