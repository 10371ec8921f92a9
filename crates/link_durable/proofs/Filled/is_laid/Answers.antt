-- What the search leaves open of `is_laid`.
use Rattle.std.proofs.Common.{rules, ◌≡◌, sym, ◌∙◌, refl, drop, length}
use Rattle.std.specs.List.{list_all}
use Rattle.std.proofs.lemmas.Iterator.{YieldsList-from_slice}
use Rattle.std.proofs.lemmas.Iterator.Search.{all_from_yields_List}
use Rattle.lists.specs.Lists.{every}
use Rattle.link_durable.specs.Views.{laid}
use Rattle.link_durable.proofs.Tests.{tail-slice}
use Rattle.lists.proofs.Library.{all-is}
use Rattle.link_durable.proofs.Filled.is_laid.Goals as goal

pub returns-then-self : goal.returns-then-self
unfolding laid every
returns-then-self g c = λ p h.
    let s = c.args.self.now in
    let free = drop s.used s.places in
    let e : c.all.result ≡ list_all p free =
    all_from_yields_List p _ c.args.blank _ c.all.ensures.ran
    (YieldsList-from_slice free (c.iter.ensures.rest ∙ tail-slice s.places (length s.places) s.used refl))
    (λ x b q k. h c.args.blank q x b (record { met = k.met })) in
    let tested = e ∙ sym (all-is p free) in
    search rules

pub returns-else-self : goal.returns-else-self
unfolding laid every
returns-else-self g c = λ p h. search rules
