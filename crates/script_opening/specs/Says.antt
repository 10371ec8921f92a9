-- The number of each answer and its values: 0 with what was read and the place after it, or 11 with the place of the bad record.
-- Assumes nothing.
use Rattle.std.specs.Prelude.{ℕ, List, map, take, Result}
use Rattle.types.specs.declared.Envelope.{Envelope}
use Rattle.types.specs.declared.Rule.{Rule}
use Rattle.rules.specs.Script as script
use Rattle.link_inner.specs.declared.Table.{Table}
use Rattle.link_inner.specs.Views.{rules_of}
use Rattle.script_places.specs.declared.BadAt.{BadAt}
use Rattle.script_places.specs.Says.{Said, result_says}
use Rattle.script_opening.specs.declared.Tables.{Tables}
use Rattle.script_opening.specs.declared.Envelopes.{Envelopes}
use Rattle.script_opening.specs.declared.Opening.{Opening}

-- What a list holds is what is in use.
abbrev pub table_says : Result (Table × ℕ) BadAt → Said (List Rule)
table_says = result_says rules_of

abbrev pub tables_in : Tables → List (List Rule)
tables_in t = map rules_of (take t.used t.list)

abbrev pub tables_says : Result (Tables × ℕ) BadAt → Said (List (List Rule))
tables_says = result_says tables_in

abbrev pub envelopes_in : Envelopes → List Envelope
envelopes_in e = take e.used e.list

abbrev pub envelopes_says : Result (Envelopes × ℕ) BadAt → Said (List Envelope)
envelopes_says = result_says envelopes_in

abbrev pub opening_in : Opening → script.Opening
opening_in o = record {
  version = o.version;
  kind = o.kind;
  tables = tables_in o.tables;
  envelopes = envelopes_in o.envelopes;
}

abbrev pub opening_says : Result (Opening × ℕ) BadAt → Said script.Opening
opening_says = result_says opening_in
