-- The capacities. The code's constants have the same names.
-- Assumes nothing.
use Rattle.std.specs.Prelude.{ℕ, ◌+◌}

-- Entries of a network, and starting envelopes.
abbrev pub most_entries : ℕ
most_entries = 128

-- Copies of one envelope.
abbrev pub most_copies : ℕ
most_copies = 65535

-- Messages of a link that were not acked.
abbrev pub most_pending : ℕ
most_pending = 32

-- What a handler tells: set Network, and all that is pending.
abbrev pub most_told : ℕ
most_told = most_pending + 1

abbrev pub most_actors : ℕ
most_actors = 8

-- Rules of a table, and commands of a rule.
abbrev pub most_rules : ℕ
most_rules = 16

abbrev pub most_commands : ℕ
most_commands = 4

abbrev pub last_state : ℕ
last_state = 15

-- The last timer is the link's own.
abbrev pub network : ℕ
network = 31

-- Bytes of a script.
abbrev pub most_bytes : ℕ
most_bytes = 65536
