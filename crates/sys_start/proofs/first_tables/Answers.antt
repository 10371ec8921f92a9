-- What the search leaves open of `first_tables`.
use borrow.Author.Rules.{rules}
use native.Mathlib.Omega.{arith}
use mathlib.Core.Path.{◌≡◌, ap, sym, ◌∙◌}
use mathlib.Core.List.{List, ◌++◌}
use Prim.Native.Nat.{ℕ, ◌-◌}
use lib.ListN.{length, take, replicate}
use lib.Seq.{length-take-le}
use Rattle.std.proofs.lemmas.List.{drop-replicate}
use Rattle.types.specs.Capacities.{most_actors}
use Rattle.lists.specs.Lists.{pad}
use Rattle.lists.proofs.Places.{length-mapped}
use Rattle.link_inner.specs.declared.Table.{Table}
use Rattle.link_inner.specs.Views.{zero_table}
use Rattle.sys_start.proofs.first_tables.Goals as goal

pub returns : goal.returns
unfolding pad
returns c =
    let a = c.args in
    let own = take a.count a.tables in
    let room : length a.tables ≡ most_actors = search (rules, length-mapped) in
    let many : length own ≡ a.count = length-take-le a.count a.tables (omega arith) in
    rw (c.zero_table-own.ensures, c.copy_from_slice.ensures.after) (ap (λ (l : List Table). own ++ l) (drop-replicate a.count most_actors zero_table
    ∙ ap (λ (n : ℕ). replicate (most_actors - n) zero_table) (sym many)))
