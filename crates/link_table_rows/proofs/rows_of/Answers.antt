-- A turn lays out one more rule, and the loop ends after the last that is used.
use borrow.Author.Rules.{rules}
use native.Mathlib.Omega.{arith}
use Prim.Native.Nat.{ℕ}
use mathlib.Core.Path.{◌≡◌, subst}
use lib.ListN.{length}
use Rattle.lists.proofs.Places.{length-mapped}
use Rattle.types.specs.Capacities.{most_rules}
use Rattle.link_table_rows.proofs.Tables.{Filled, laid_none, all-used, one_laid, laid_out}
use Rattle.link_table_rows.proofs.rows_of.Goals as goal

pub loop-i-init : goal.loop-i-init
loop-i-init c =
    let room : length c.args.t.rules ≡ most_rules = search (rules, length-mapped) in
    laid_none c.args.t.rules room

pub loop-i-preserved : goal.loop-i-preserved
loop-i-preserved c =
    let room : length c.args.t.rules ≡ most_rules = search (rules, length-mapped) in
    let l = c.loop-i in
    one_laid c.args.t room c.requires l.i l.out _ c.loop-i-test.true l.invariant c.row_of.ensures

pub returns : goal.returns
returns c =
    let t = c.args.t in
    let room : length t.rules ≡ most_rules = search (rules, length-mapped) in
    let n = all-used t room c.requires in
    let e : c.loop-i.i ≡ t.used = omega arith in
    laid_out t room c.requires c.loop-i.out (subst (λ (k : ℕ). Filled t.rules k c.loop-i.out) e c.loop-i.invariant)
