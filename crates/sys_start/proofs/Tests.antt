-- What is tested before a start, test by test.
-- Assumes nothing.
use Prim.Native.Nat.{ℕ, ◌≤◌}
use native.Mathlib.Omega.{arith}
use mathlib.Core.Path.{◌≡◌, sym, subst, ◌∙◌}
use mathlib.Core.Bool.{Bool, true, ◌&&◌}
use mathlib.Core.List.{List, [], ◌∷◌, map}
use lib.ListN.{length, take, length-map}
use lib.Seq.{length-take-le}
use lib.Dec.{leb}
use borrow.Author.Tests.{leb-true, le-leb}
use Rattle.types.specs.Capacities.{most_entries, most_actors}
use Rattle.lists.specs.Lists.{all, every}
use Rattle.lists.proofs.Members.{and_both, and-make, every-cons, every-make, every-nil, all_in, all-make}
use Rattle.lists.proofs.Walks.{all_map}
use Rattle.rules.specs.WellFormed.{source_known, sound}
use Rattle.rules.specs.Start.{startable}
use Rattle.link_inner.specs.declared.Table.{Table}
use Rattle.link_inner.specs.Views.{rules_of, table_ok}
use Rattle.sys_system.specs.Views.{table_laid}
use Rattle.sys_system.proofs.Tables.{table-parts, table-make}
use Rattle.sys_system.proofs.Laws.{same_true}
use Rattle.sys_start.specs.declared.Given.{Given}
use Rattle.sys_start.specs.Views.{counts_fit, given_view, tables_view, start_laid, start_fine}

-- ---- tables
pub tables-sound : (l : List Table) → all table_ok l ≡ true → all sound (map rules_of l) ≡ true
tables-sound l e = sym (all_map sound rules_of l) ∙ all-make _ l (λ t m. (table-parts t (all_in _ _ e t m)).1)

tables-fine : (l : List Table) → all table_laid l ≡ true → all sound (map rules_of l) ≡ true → all table_ok l ≡ true
tables-fine l e f = all-make _ l (λ t m. table-make t (all_in _ _ e t m) (all_in _ l (all_map sound rules_of l ∙ f) t m))

pub count-seen : (count : ℕ) (tables : List Table) → length tables ≡ most_actors → count ≤ most_actors → length (tables_view count tables) ≡ count
count-seen count tables n h = length-map (take count tables) rules_of ∙ length-take-le count tables (omega arith)

-- ---- what the counts allow
pub counts-allow : (kind count used : ℕ) → counts_fit kind count used ≡ true → (count ≤ most_actors) × (used ≤ most_entries)
counts-allow kind count used e =
    let c = and_both (leb 1 count && leb count most_actors && leb kind 2) _ e in
    let b = and_both (leb 1 count && leb count most_actors) _ c.0 in
    (leb-true _ _ (and_both (leb 1 count) _ b.0).1, leb-true _ _ c.1)

module _ (kind count : ℕ) (tables : List Table) (g : Given) where
  -- The tests, as they are asked.
  abbrev pub tests : Bool
  tests = counts_fit kind count g.used && (all table_ok (take count tables) && all (source_known count) (given_view g))

  pub record Fine : Type 0 where
    pub some : 1 ≤ count
    pub few : count ≤ most_actors
    pub kinds : kind ≤ 2
    pub tables-ok : all table_ok (take count tables) ≡ true
    pub held : g.used ≤ most_entries
    pub sources : all (source_known count) (given_view g) ≡ true

  of-tests : tests ≡ true → Fine
  of-tests e =
      let x = and_both (counts_fit kind count g.used) _ e in
      let y = and_both (all table_ok (take count tables)) _ x.1 in
      let c = and_both (leb 1 count && leb count most_actors && leb kind 2) _ x.0 in
      let b = and_both (leb 1 count && leb count most_actors) _ c.0 in
      let a = and_both (leb 1 count) _ b.0 in
      record {
        some = leb-true _ _ a.0;
        few = leb-true _ _ a.1;
        kinds = leb-true _ _ b.1;
        tables-ok = y.0;
        held = leb-true _ _ c.1;
        sources = y.1;
      }

  to-tests : Fine → tests ≡ true
  to-tests f =
      and-make _ _
      (and-make _ _ (and-make _ _ (and-make _ _ (le-leb _ _ f.some) (le-leb _ _ f.few)) (le-leb _ _ f.kinds)) (le-leb _ _ f.held))
      (and-make _ _ f.tables-ok f.sources)

  module _ (room : length tables ≡ most_actors) where
    pub fine_of : start_fine kind count tables g ≡ true → Fine
    unfolding start_fine start_laid startable
    fine_of e =
        let ts = tables_view count tables in
        let x = and_both (every (leb count most_actors ∷ all table_laid (take count tables) ∷ leb g.used most_entries ∷ [])) _ e in
        let y = every-cons _ _ x.0 in
        let z = every-cons _ _ y.1 in
        let a = every-cons _ _ x.1 in
        let b = every-cons _ _ (every-cons _ _ a.1).1 in
        let c = every-cons _ _ b.1 in
        let few = leb-true _ _ y.0 in
        let n = count-seen count tables room few in
        let some : 1 ≤ length ts = leb-true _ _ a.0 in
        record {
          some = omega arith;
          few = few;
          kinds = leb-true _ _ b.0;
          tables-ok = tables-fine (take count tables) z.0 c.0;
          held = leb-true _ _ (every-cons _ _ z.1).0;
          sources = subst (λ (k : ℕ). all (source_known k) (given_view g) ≡ true) n (every-cons _ _ c.1).0;
        }

    of-fine : Fine → start_fine kind count tables g ≡ true
    unfolding start_fine start_laid startable
    of-fine f =
        let n = sym (count-seen count tables room f.few) in
        and-make _ _
        (every-make _ _ (le-leb _ _ f.few) (every-make _ _ (all-make _ _ (λ t m. (table-parts t (all_in _ _ f.tables-ok t m)).0))
        (every-make _ _ (le-leb _ _ f.held) every-nil)))
        (subst (λ (k : ℕ). every (leb 1 k ∷ leb k most_actors ∷ leb kind 2 ∷ all sound (tables_view count tables)
        ∷ all (source_known k) (given_view g) ∷ []) ≡ true) n
        (every-make _ _ (le-leb _ _ f.some) (every-make _ _ (le-leb _ _ f.few) (every-make _ _ (le-leb _ _ f.kinds)
        (every-make _ _ (tables-sound (take count tables) f.tables-ok) (every-make _ _ f.sources every-nil))))))

    pub fine-tests : start_fine kind count tables g ≡ tests
    fine-tests = same_true _ _ (λ e. to-tests (fine_of e)) (λ e. of-fine (of-tests e))
