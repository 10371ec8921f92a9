-- What was put into an array is what is in use there: so an answer's values are those of the reading.
-- Assumes nothing.
use mathlib.Core.Path.{◌≡◌, refl, sym, ap, ap₂, ◌∙◌}
use mathlib.Core.List.{List, [], ◌∷◌, map}
use lib.ListN.{take, length-map}
use Rattle.lists.specs.Lists.{pad}
use Rattle.lists.proofs.Places.{pad-view}
use Prim.Native.Nat.{ℕ}
use Rattle.types.specs.Capacities.{most_actors, most_entries, most_rules}
use Rattle.types.specs.declared.Envelope.{Envelope}
use Rattle.types.specs.declared.Rule.{Rule}
use Rattle.rules.specs.Script as script
use Rattle.link_inner.specs.Views.{rules_of, zero_rule, table_as, zero_table}
use Rattle.script_opening.specs.Views.{tables_held, zero_envelope, envelopes_held, opening_held}
use Rattle.script_opening.specs.Says.{tables_in, envelopes_in, opening_in}

pub table_back : (l : List Rule) → rules_of (table_as l) ≡ l
table_back l = pad-view most_rules zero_rule l

-- The structs of lists of rules hold them.
rules-in : (l : List (List Rule)) → map rules_of (map table_as l) ≡ l
rules-in [] = refl
rules-in (rs ∷ l) = ap₂ ◌∷◌ (table_back rs) (rules-in l)

pub tables-back : (l : List (List Rule)) → tables_in (tables_held l) ≡ l
tables-back l =
    ap (λ (n : ℕ). map rules_of (take n (pad most_actors zero_table (map table_as l)))) (sym (length-map l table_as))
    ∙ ap (map rules_of) (pad-view most_actors zero_table (map table_as l))
    ∙ rules-in l

pub envelopes-back : (l : List Envelope) → envelopes_in (envelopes_held l) ≡ l
envelopes-back l = pad-view most_entries zero_envelope l

pub opening-back : (o : script.Opening) → opening_in (opening_held o) ≡ o
opening-back o = λ i. record {
  version = o.version;
  kind = o.kind;
  tables = tables-back o.tables i;
  envelopes = envelopes-back o.envelopes i;
}
