-- Why the start finds in the arrays what was read: the lists of a script fit their arrays, so that nothing of them is lost there.
-- Assumes nothing.
use Prim.Native.Nat.{ℕ, zero, suc, ◌≤◌}
use native.Mathlib.Omega.{arith}
use mathlib.Core.Bool.{Bool, true}
use Rattle.std.specs.Prelude.{Ok}
use mathlib.Core.Path.{◌≡◌, refl, sym, ap, subst, ◌∙◌}
use mathlib.Core.List.{List, [], ◌∷◌, map}
use lib.ListN.{length, take, length-map}
use borrow.Author.Tests.{le-leb}
use Rattle.lists.specs.Lists.{all, pad}
use Rattle.lists.proofs.Members.{and-make, every-make, every-nil}
use Rattle.lists.proofs.Walks.{all_map, map_back}
use Rattle.lists.proofs.Places.{pad-view}
use Rattle.types.specs.Capacities.{most_actors, most_entries, most_rules}
use Rattle.types.specs.declared.Envelope.{Envelope}
use Rattle.types.specs.declared.Format.{Format}
use Rattle.types.specs.declared.Rule.{Rule}
use Rattle.layout.specs.Read.{read, Reader, one, onward, joining, repeat}
use Rattle.rules.specs.Outcome.{guard, base}
use Rattle.rules.specs.System.{systems}
use Rattle.rules.specs.Start.{blank, start}
use Rattle.rules.specs.Script.{Header, Opening, versions, format_of, Fine, header_form, rule_count_form, rule_form, envelope_count_form, envelope_form, table_from}
use Rattle.rules.specs.Script.{envelopes_from, lists_from, opening_from}
use Rattle.rules.proofs.Formats.{formats-fine}
use Rattle.link_inner.specs.declared.Table.{Table}
use Rattle.link_inner.specs.Views.{rules_of}
use Rattle.link_inner.specs.Views.{table_as, zero_table}
use Rattle.sys_system.specs.Views.{table_laid, system_of}
use Rattle.sys_system.proofs.Tables.{rules-back, table_fits}
use Rattle.sys_answered.specs.declared.Answered.{Answered}
use Rattle.sys_answered.specs.Views.{answered_of}
use Rattle.sys_start.specs.declared.Given.{Given}
use Rattle.sys_start.specs.Views.{start_laid, started}
use Rattle.script_opening.specs.declared.Opening as held
use Rattle.script_opening.specs.Views.{zero_envelope, opening_held, opening_read}
use Rattle.script_opening.proofs.Readings.{found_is, few-rules, few-envelopes, few-actors}
use Rattle.script_opening.proofs.Kept.{both, kept-opening}
use Rattle.replay_start.specs.declared.Opened.{Opened}
use Rattle.replay_start.specs.Views.{opened_of}

-- ---- so many, one after another: how many, and what holds of each
module _ {A : Type 0} (f : Reader A) (t : A → Bool) (each : (xs : List ℕ) (p : ℕ) (a : A) (ys : List ℕ) (q : ℕ) → f xs p ≡ read a ys q → t a
    ≡ true) where
  repeat-all : (n : ℕ) (xs : List ℕ) (p : ℕ) {l : List A} {ys : List ℕ} {q : ℕ} → repeat n f xs p ≡ read l ys q → (length l ≡ n)
      × (all t l ≡ true)
  unfolding repeat joining all
  repeat-all zero xs p {l} {ys} {q} e =
      let x : [] ≡ l = cc in rw (← x) (refl, refl)
  repeat-all (suc n) xs p {l} {ys} {q} e =
      let r = both (f xs p) (λ a zs k. onward (repeat n f zs k) (joining a)) e in
      let w = both (repeat n f r.left r.place) (joining r.value) r.second in
      let u : read (r.value ∷ w.value) w.left w.place ≡ read l ys q = w.second in
      let x : r.value ∷ w.value ≡ l = cc in
      let k = repeat-all n r.left r.place w.first in
      rw (← x) (ap suc k.0, and-make (t r.value) _ (each xs p r.value r.left r.place r.first) k.1)

module _ (f : Format) where
  -- a table that is read has no more rules than its array, so it is laid out
  table-read : (xs : List ℕ) (p : ℕ) (rs : List Rule) (ys : List ℕ) (q : ℕ) → table_from f xs p ≡ read rs ys q → table_laid (table_as rs) ≡ true
  unfolding table_from
  table-read xs p rs ys q e =
      let r = both (one rule_count_form xs p) (λ c. repeat c (one (rule_form f))) e in
      let c = few-rules xs p r.first in
      let n = (repeat-all (one (rule_form f)) (λ x. true) (λ xs p a ys q e. refl) r.value r.left r.place r.second).0 in
      table_fits rs (le-leb (length rs) most_rules (omega arith))

  -- no more envelopes are read than their array has
  few-given : Fine f → (xs : List ℕ) (p : ℕ) {es : List Envelope} {ys : List ℕ} {q : ℕ} → envelopes_from f xs p ≡ read es ys q
      → length es ≤ most_entries
  unfolding envelopes_from
  few-given fine xs p e =
      let r = both (one (envelope_count_form f) xs p) (λ c. repeat c (one (envelope_form f))) e in
      let c = few-envelopes f xs p r.first in
      let n = (repeat-all (one (envelope_form f)) (λ x. true) (λ xs p a ys q e. refl) r.value r.left r.place r.second).0 in
      omega (arith, c, n, fine.most)

-- ---- an opening that was read fits its arrays
pub record Laid (o : Opening) : Type 0 where
  pub actors : length o.tables ≤ most_actors
  pub tables : all (λ rs. table_laid (table_as rs)) o.tables ≡ true
  pub given : length o.envelopes ≤ most_entries

lists-laid : (f : Format) (h : Header) (xs : List ℕ) (p : ℕ) {o : Opening} {ys : List ℕ} {q : ℕ} → Fine f → h.actors ≤ most_actors
    → lists_from f h xs p ≡ read o ys q → Laid o
unfolding lists_from
lists-laid f h xs p {o} {ys} {q} fine few e =
    let t = both (repeat h.actors (table_from f) xs p) _ e in
    let u = both (envelopes_from f t.left t.place) _ t.second in
    let n = repeat-all (table_from f) (λ rs. table_laid (table_as rs)) (table-read f) h.actors xs p t.first in
    let s : read (record { version = h.version; kind = h.kind; tables = t.value; envelopes = u.value }) u.left u.place ≡ read o ys q = u.second in
    let x : record { version = h.version; kind = h.kind; tables = t.value; envelopes = u.value } ≡ o = cc in
    subst Laid x (record { actors = omega (arith, n.0); tables = n.1; given = few-given f fine t.left t.place u.first })

pub opening-laid : (xs : List ℕ) {o : Opening} {ys : List ℕ} {q : ℕ} → opening_from versions xs 0 ≡ read o ys q → Laid o
unfolding opening_from
opening-laid xs e =
    let h = both (one (header_form versions) xs 0) (λ h. lists_from (format_of versions h.version) h) e in
    lists-laid (format_of versions h.value.version) h.value h.left h.place (formats-fine h.value.version)
    (few-actors versions xs 0 h.first) h.second

-- ---- the start finds it there
module _ {o : Opening} (w : Laid o) {tables : List Table} (laid : tables ≡ pad most_actors zero_table (map table_as o.tables)) where
  tables-taken : take (length o.tables) tables ≡ map table_as o.tables
  tables-taken =
      ap (take (length o.tables)) laid
      ∙ ap (λ (k : ℕ). take k (pad most_actors zero_table (map table_as o.tables))) (sym (length-map o.tables table_as))
      ∙ pad-view most_actors zero_table (map table_as o.tables)

  start-laid : (g : Given) → g.used ≤ most_entries → start_laid (length o.tables) tables g ≡ true
  unfolding start_laid
  start-laid g h =
      every-make _ _ (le-leb (length o.tables) most_actors w.actors)
      (every-make _ _ (ap (all table_laid) tables-taken ∙ sym (all_map table_laid table_as o.tables) ∙ w.tables)
      (every-make _ _ (le-leb g.used most_entries h) every-nil))

  pub started-is
      : (kind : ℕ) (g : Given) → g.list ≡ pad most_entries zero_envelope o.envelopes → g.used ≡ length o.envelopes
      → started kind (length o.tables) tables g ≡ systems (start base (record { kind = kind }) o.tables o.envelopes)
  unfolding started guard
  started-is kind g e n =
      let r = ap (map rules_of) tables-taken ∙ map_back table_as rules_of rules-back o.tables in
      let s = (λ i. take (n i) (e i)) ∙ pad-view most_entries zero_envelope o.envelopes in
      rw (start-laid g (omega (arith, w.given))) (λ i. systems (start base (record { kind = kind }) (r i) (s i)))

-- ---- the answer, from what the opening's answer holds
pub opened-is
    : (s : List ℕ) {o : held.Opening} {q : ℕ} {r : Answered} → Ok (o, q) ≡ opening_read (opening_from versions s 0)
    → r ≡ answered_of (system_of blank) (started o.kind o.tables.used o.tables.list (record { list = o.envelopes.list; used = o.envelopes.used }))
    → ◌≡◌ {A = Opened} (record { answered = r; version = o.version; next = q }) (opened_of (opening_from versions s 0))
opened-is s {o} {q} {r} e k =
    let w = found_is opening_held (opening_from versions) s 0 (kept-opening versions) e in
    let x : Opening = w.value in
    let given : Given = record { list = o.envelopes.list; used = o.envelopes.used } in
    let n = ap (λ (y : held.Opening). y.tables.used) w.told in
    let p = ap (λ (y : held.Opening). y.kind) w.told in
    let m = started-is (opening-laid s w.reads) (ap (λ (y : held.Opening). y.tables.list) w.told) x.kind given
    (ap (λ (y : held.Opening). y.envelopes.list) w.told)
    (ap (λ (y : held.Opening). y.envelopes.used) w.told) in
    let v = k ∙ (λ i. answered_of (system_of blank) (started (p i) (n i) o.tables.list given)) ∙ ap (answered_of (system_of blank)) m in
    (λ i. record { answered = v i; version = (w.told i).version; next = q }) ∙ sym (ap opened_of w.reads)
