-- So many tables, read as their structs.
use native.Mathlib.Omega.{arith}
use Prim.Native.Nat.{ℕ, ◌≤◌}
use mathlib.Core.Path.{sym, ap, ◌∙◌}
use mathlib.Core.List.{map}
use borrow.Author.Rules.{rules, lives}
use lib.ListN.{drop}
use Rattle.std.specs.Prelude.{Ok}
use Rattle.lists.specs.Lists.{pad}
use Rattle.layout.specs.Read.{repeat}
use Rattle.types.specs.Capacities.{most_actors}
use Rattle.rules.specs.Script.{table_from}
use Rattle.link_inner.specs.Views.{table_as}
use Rattle.script_places.proofs.Says.{tells, failed}
use Rattle.script_opening.specs.Views.{Kept, tables_held, tables_read}
use Rattle.script_opening.specs.Says.{tables_in}
use Rattle.script_opening.proofs.Readings.{found_is, missed}
use Rattle.script_opening.proofs.Kept.{kept-repeat, repeat-length}
use Rattle.script_opening.proofs.Changed.{changed-result, before, before-bad, repeat-changing, table_reader, kept-tables}
use Rattle.script_opening.proofs.Says.{tables-back}
use Rattle.script_opening.proofs.read_tables.Goals as goal

pub read_many-requires : goal.read_many-requires
read_many-requires c = λ k h.
    let a = c.args in
    let room : a.count ≤ most_actors = omega arith in
    let kept : Kept (table_reader a.f) = kept-tables a.f in
    let as_struct = λ (p : ℕ). changed-result table_as (table_from a.f (drop p a.script.now) p) in
    (search lives, (search lives, (search lives depth 12, search (rules, room, kept, as_struct) parts 12)))

pub returns-in_err-list : goal.returns-in_err-list
returns-in_err-list c =
    let a = c.args in
    let xs = drop a.at a.script.now in
    let m = repeat a.count (table_from a.f) xs a.at in
    let b = missed (pad most_actors c.zero_table.result) (repeat a.count (table_reader a.f)) a.script.now a.at c.in_err-list.ensures in
    let e = failed _ c.from_residual.ensures.1
    ∙ sym (ap tables_read (before-bad (map table_as) m (sym (repeat-changing table_as (table_from a.f) a.count xs a.at) ∙ b))) in
    record { value = e; says = tells tables_held tables_in tables-back _ e }

pub returns : goal.returns
returns c =
    let a = c.args in
    let xs = drop a.at a.script.now in
    let m = repeat a.count (table_from a.f) xs a.at in
    let w = found_is (pad most_actors c.zero_table.result) (repeat a.count (table_reader a.f)) a.script.now a.at
    (kept-repeat a.count (table_reader a.f) (kept-tables a.f)) c.in_ok-list.ensures in
    let v = before (map table_as) m (sym (repeat-changing table_as (table_from a.f) a.count xs a.at) ∙ w.reads) in
    let l = w.told ∙ (λ i. pad most_actors (c.zero_table.ensures i) (v.told i)) in
    let u = sym (repeat-length (table_from a.f) a.count xs a.at v.reads) in
    let e = (λ i. Ok (record { list = l i; used = u i }, c.in_ok-list.next)) ∙ sym (ap tables_read v.reads) in
    record { value = e; says = tells tables_held tables_in tables-back _ e }
