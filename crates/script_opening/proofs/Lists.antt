-- Why the opening is read right: the answers of its lists say what was read, and the lists stand behind the header in that order.
-- Assumes nothing.
use Prim.Native.Nat.{ℕ, ◌≤◌}
use mathlib.Core.Path.{◌≡◌, sym, ap, ◌∙◌}
use mathlib.Core.List.{List}
use lib.ListN.{drop}
use Rattle.std.specs.Prelude.{Ok, Err}
use Rattle.types.specs.Capacities.{most_actors}
use Rattle.types.specs.declared.Envelope.{Envelope}
use Rattle.types.specs.declared.Format.{Format}
use Rattle.types.specs.declared.Rule.{Rule}
use Rattle.layout.specs.Read.{read, Reader, one, onward, repeat}
use Rattle.rules.specs.Script.{versions, header_form, format_of, table_from, envelopes_from, lists_from, opening_from}
use Rattle.rules.specs.Script as script
use Rattle.script_places.specs.declared.BadAt.{BadAt}
use Rattle.script_records.specs.declared.Header.{Header}
use Rattle.script_records.specs.Views.{header_held, header_read}
use Rattle.script_opening.specs.declared.Tables.{Tables}
use Rattle.script_opening.specs.declared.Envelopes.{Envelopes}
use Rattle.script_opening.specs.Views.{tables_held, tables_read, envelopes_held, envelopes_read, opening_read}
use Rattle.script_opening.proofs.Readings.{Found, found_is, missed, then_read, then_bad, kept-one, few-actors}
use Rattle.script_opening.proofs.Kept.{kept-repeat, kept_table, kept-envelopes}

module _ (s : List ℕ) where
  pub no_header : {d : BadAt} → Err d ≡ header_read (one (header_form versions) s 0) → Err d ≡ opening_read (opening_from versions s 0)
  unfolding opening_from
  no_header k = sym (ap opening_read (then_bad _ (missed header_held (one (header_form versions)) s 0 k)))

  module _ {x : Header} {q : ℕ} {f : Format} (e : Ok (x, q) ≡ header_read (one (header_form versions) s 0)) (z : f ≡ format_of versions x.version) where
    header-found : one (header_form versions) s 0 ≡ read (record { version = x.version; kind = x.kind; actors = x.actors }) (drop q s) q
    header-found =
        let w = found_is header_held (one (header_form versions)) s 0 (kept-one (header_form versions)) e in
        w.reads ∙ ap (λ (y : Header). read (record { version = y.version; kind = y.kind; actors = y.actors }) (drop q s) q) (sym w.told)

    pub few_tables : x.actors ≤ most_actors
    few_tables = few-actors versions s 0 header-found

    -- ---- behind the header
    behind : List (List Rule) → List Envelope → Reader script.Opening
    behind ts es zs r = read (record { version = x.version; kind = x.kind; tables = ts; envelopes = es }) zs r

    by-header : opening_from versions s 0
        ≡ onward (repeat x.actors (table_from f) (drop q s) q) (λ ts ys p. onward (envelopes_from f ys p) (behind ts))
    unfolding opening_from lists_from behind
    by-header =
        then_read _ header-found
        ∙ ap (λ (g : Format). lists_from g (record { version = x.version; kind = x.kind; actors = x.actors }) (drop q s) q) (sym z)

    pub no-tables : {d : BadAt} → Err d ≡ tables_read (repeat x.actors (table_from f) (drop q s) q) → Err d ≡ opening_read (opening_from versions s 0)
    no-tables k = sym (ap opening_read (by-header ∙ then_bad _ (missed tables_held (repeat x.actors (table_from f)) s q k)))

    module _ {t : Tables} {m : ℕ} (k : Ok (t, m) ≡ tables_read (repeat x.actors (table_from f) (drop q s) q)) where
      w : Found tables_held (repeat x.actors (table_from f)) s q t m
      w = found_is tables_held (repeat x.actors (table_from f)) s q (kept-repeat x.actors (table_from f) (kept_table f)) k

      by-tables : opening_from versions s 0 ≡ onward (envelopes_from f (drop m s) m) (behind w.value)
      by-tables = by-header ∙ then_read _ w.reads

      pub no-envelopes : {d : BadAt} → Err d ≡ envelopes_read (envelopes_from f (drop m s) m) → Err d ≡ opening_read (opening_from versions s 0)
      no-envelopes j = sym (ap opening_read (by-tables ∙ then_bad _ (missed envelopes_held (envelopes_from f) s m j)))

      pub all-read : {v : Envelopes} {n : ℕ} → Ok (v, n) ≡ envelopes_read (envelopes_from f (drop m s) m)
          → Ok (record { version = x.version; kind = x.kind; tables = t; envelopes = v }, n) ≡ opening_read (opening_from versions s 0)
      unfolding behind
      all-read {v} {n} j =
          let u = found_is envelopes_held (envelopes_from f) s m (kept-envelopes f) j in
          (λ i. Ok (record { version = x.version; kind = x.kind; tables = w.told i; envelopes = u.told i }, n))
          ∙ sym (ap opening_read (by-tables ∙ then_read _ u.reads))
