-- What a Deliver makes of kind and last message: no row holds them.
-- Assumes nothing.
use mathlib.Core.Path.{◌≡◌, refl}
use mathlib.Core.Bool.{Bool, true, false}
use Rattle.lists.specs.Lists.{choose}
use Rattle.types.specs.declared.Envelope.{Envelope}
use Rattle.types.specs.declared.Kind.{Kind}
use Rattle.types.specs.declared.Kind.TheVariants.{Ordered, UnorderedDuplicating, UnorderedNonDuplicating}
use Rattle.std.specs.Prelude.{Some}
use Rattle.rules.specs.Network.{Net, dropping, delivering, is_duplicating}
use Rattle.net_rows.specs.Views.{last_after}

module _ (e : Envelope) (m : Net) where
  pub delivered-kind : (delivering e m).kind ≡ m.kind
  unfolding delivering dropping choose
  delivered-kind = go (is_duplicating m.kind)
    where
      go : (b : Bool) → (choose b (record { kind = m.kind; entries = m.entries; last = Some e }) (dropping e m)).kind ≡ m.kind
      go true = refl
      go false = refl

  pub delivered-last : (delivering e m).last ≡ last_after m.kind e m.last
  unfolding delivering dropping choose is_duplicating
  delivered-last = go m.kind
    where
      go : (k : Kind)
          → (choose (is_duplicating k) (record { kind = m.kind; entries = m.entries; last = Some e }) (dropping e m)).last ≡ last_after k e m.last
      go Ordered = refl
      go UnorderedDuplicating = refl
      go UnorderedNonDuplicating = refl
