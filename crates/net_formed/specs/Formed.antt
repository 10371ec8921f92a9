-- A network that is laid out and well formed: any content of the struct is one or is not.
-- Assumes nothing.
use Rattle.std.specs.Prelude.{ℕ, Bool, ◌&&◌, Option, List, drop, leb, eqb}
use Rattle.lists.specs.Lists.{all, chain}
use Rattle.types.specs.declared.Entry.{Entry}
use Rattle.types.specs.declared.Kind.{Kind}
use Rattle.types.specs.declared.Envelope.{Envelope}
use Rattle.types.specs.Capacities.{most_entries}
use Rattle.types.specs.Order.{same}
use Rattle.rules.specs.Outcome.{base}
use Rattle.rules.specs.WellFormed.{source_known, count_ok, in_order, last_ok, net_ok}
use Rattle.net_network.specs.declared.Network.{Network}
use Rattle.net_network.specs.Views.{zero_entry, net_view}

unfoldable pub zeroed : Entry → Bool
zeroed x = eqb x.count 0 && same x.envelope zero_entry.envelope

-- Of the used entries l, with k actors: known sources, counts that suit the kind, the order of the kind; and of the last message.
abbrev pub parts_fine : Kind → ℕ → List Entry → Option Envelope → Bool
parts_fine kind k l last =
    all (λ (x : Entry). source_known k x.envelope) l
    && (all (λ (x : Entry). count_ok base.room.copies kind x.count) l && (chain (in_order kind) l && last_ok k kind last))

-- The count fits, and the unused places are zero.
unfoldable pub laid_out : Network → Bool
laid_out n = leb n.used most_entries && all zeroed (drop n.used n.entries)

-- With k actors.
unfoldable pub net_formed : Network → ℕ → Bool
net_formed n k = laid_out n && net_ok base.room k (net_view n)
