-- The words of each place are those of its command, and they fit.
use borrow.Author.Rules.{rules}
use Prim.Native.Nat.{ℕ, ◌<◌}
use mathlib.Core.Path.{◌≡◌}
use mathlib.Core.Bool.{false}
use lib.ListN.{length, get_or}
use Rattle.lists.proofs.Places.{length-mapped}
use Rattle.types.specs.Capacities.{most_commands}
use Rattle.rules.specs.Inner.{zero_slot}
use Rattle.link_table_rows.specs.Layout.{words_at, Fits}
use Rattle.link_table_rows.specs.declared.Words.{Words}
use Rattle.link_table_rows.proofs.Laws.{row_is}
use Rattle.link_table_rows.proofs.row_of.Goals as goal

none : Words
none = record { head = 0; word = 0; sent = false; kept = false }

pub returns : goal.returns
returns c =
    let r = c.args.r in
    let room : length r.commands ≡ most_commands = search (rules, length-mapped) in
    let f : (i : ℕ) → i < most_commands → (get_or c.map.result i none ≡ words_at r i) × Fits (get_or c.map.result i none)
    = λ i h. let k = c.map.ensures.items.at i zero_slot none h in search rules in
    row_is r room c.map.result none f _ (search rules)
