-- The answer that opening a script gives.
-- Assumes nothing.
use Rattle.layout.specs.Read.{Reading, read, bad_at}
use Rattle.rules.specs.Outcome.{Outcome, refused, base}
use Rattle.rules.specs.System.{Next, systems}
use Rattle.rules.specs.Start.{blank, start}
use Rattle.rules.specs.Script.{Opening}
use Rattle.sys_system.specs.Views.{system_of}
use Rattle.sys_answered.specs.Views.{answered_of}
use Rattle.replay_start.specs.declared.Opened.{Opened}

-- The start of what was read. A bad record is refused as 11.
abbrev pub start_of : Opening → Outcome Next
start_of o = start base (record { kind = o.kind }) o.tables o.envelopes

abbrev pub opened_of : Reading Opening → Opened
opened_of (read o xs p) = record { answered = answered_of (system_of blank) (systems (start_of o)); version = o.version; next = p }
opened_of (bad_at p) = record { answered = answered_of (system_of blank) (refused 11); version = 0; next = p }
