-- A reaction that is done can be done apart: the rules' list of commands is what it asks of network and timers, and their durable
-- part is what it makes of it. The two go by the same commands, one by one.
-- Assumes nothing.
use mathlib.Core.Path.{◌≡◌, refl, ap}
use mathlib.Core.List.{List, [], ◌∷◌}
use Rattle.types.specs.declared.Id.{Id}
use Rattle.types.specs.declared.Message.TheVariants.{Deliver}
use Rattle.types.specs.declared.InnerCommand.{InnerCommand}
use Rattle.types.specs.declared.InnerCommand.TheVariants as inner
use Rattle.rules.specs.Outcome.{done, Limits}
use Rattle.rules.specs.Link.{Durable, Command, Set, Cancel, Send, Event, Output, also, process, posting, with_inner}
use Rattle.rules.proofs.Laws.{Holds, holds-done, holds-guard, holds-bind}
use Rattle.link_direct.specs.Direct.{asked, noted}

abbrev Says : List Command → Durable → Output → Type 0
Says cs d o = (o.commands ≡ cs) × (o.durable ≡ d)

-- with one command more in front
more : (x : Command) (v : List Event) (cs : List Command) (d : Durable) (o : Output) → Says cs d o → Holds (Says (x ∷ cs) d) (also x v o)
unfolding also
more x v cs d o h = holds-done (ap (λ (l : List Command). x ∷ l) h.0, h.1)

module _ (lim : Limits) (i : Id) where
  says : (os : List InnerCommand) (d : Durable) → Holds (Says (asked d.next.0 os) (noted os d)) (process lim i d os)
  unfolding process asked noted posting with_inner
  says [] d = holds-done (refl, refl)
  says (inner.SetTimer t ∷ os) d = holds-bind _ _ (says os d) (more (Set t) _ _ _)
  says (inner.CancelTimer t ∷ os) d = holds-bind _ _ (says os d) (more (Cancel t) _ _ _)
  says (inner.Save v ∷ os) d = says os (with_inner v d)
  says (inner.Send r p ∷ os) d =
      holds-guard _ 6 _ (λ a. holds-guard _ 7 _ (λ b. holds-bind _ _ (says os (posting r p d)) (more (Send r (Deliver d.next p)) _ _ _)))

  pub processed : (os : List InnerCommand) (d : Durable) (o : Output) → process lim i d os ≡ done o
      → (o.commands ≡ asked d.next.0 os) × (o.durable ≡ noted os d)
  processed os d = (says os d).value
