-- What reading a list of a script, or all that stands before its actions, answers.
-- Assumes nothing.
use Rattle.std.specs.Prelude.{ℕ, ◌≡◌, List, map, length, drop, Result}
use Rattle.lists.specs.Lists.{pad}
use Rattle.types.specs.Capacities.{most_actors, most_entries}
use Rattle.types.specs.declared.Envelope.{Envelope}
use Rattle.types.specs.declared.Message.TheVariants.{Deliver}
use Rattle.types.specs.declared.Rule.{Rule}
use Rattle.layout.specs.Read.{Reading, read, Reader}
use Rattle.rules.specs.Script as script
use Rattle.link_inner.specs.declared.Table.{Table}
use Rattle.link_inner.specs.Views.{table_as, zero_table}
use Rattle.script_places.specs.declared.BadAt.{BadAt}
use Rattle.script_places.specs.Views.{result_of}
use Rattle.script_opening.specs.declared.Tables.{Tables}
use Rattle.script_opening.specs.declared.Envelopes.{Envelopes}
use Rattle.script_opening.specs.declared.Opening.{Opening}

-- What is left after a reading is what stands from the next place on.
abbrev pub Kept : {A : Type 0} → Reader A → Type 0
Kept {A} f = (s : List ℕ) (at : ℕ) (a : A) (ys : List ℕ) (q : ℕ) → f (drop at s) at ≡ read a ys q → ys ≡ drop q s

abbrev pub table_read : Reading (List Rule) → Result (Table × ℕ) BadAt
table_read = result_of table_as

abbrev pub tables_held : List (List Rule) → Tables
tables_held l = record { list = pad most_actors zero_table (map table_as l); used = length l }

abbrev pub tables_read : Reading (List (List Rule)) → Result (Tables × ℕ) BadAt
tables_read = result_of tables_held

-- The envelope of which all is zero.
abbrev pub zero_envelope : Envelope
zero_envelope = record { src = record { 0 = 0 }; dst = record { 0 = 0 }; msg = Deliver (record { 0 = 0 }) (record { 0 = 0 }) }

abbrev pub envelopes_held : List Envelope → Envelopes
envelopes_held l = record { list = pad most_entries zero_envelope l; used = length l }

abbrev pub envelopes_read : Reading (List Envelope) → Result (Envelopes × ℕ) BadAt
envelopes_read = result_of envelopes_held

abbrev pub opening_held : script.Opening → Opening
opening_held o = record {
  version = o.version;
  kind = o.kind;
  tables = tables_held o.tables;
  envelopes = envelopes_held o.envelopes;
}

abbrev pub opening_read : Reading script.Opening → Result (Opening × ℕ) BadAt
opening_read = result_of opening_held
