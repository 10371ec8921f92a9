-- What is read many times is a table, as its struct.
use Rattle.script_opening.proofs.Changed.{table_reader}
use Rattle.script_opening.specs.contracts.fn.read_tables.read_many as closure
use Rattle.script_opening.proofs.read_tables.Given as goal

abbrev pub ghost-read_many : goal.ghost-read_many
ghost-read_many a = table_reader (closure.captures a.read).f
