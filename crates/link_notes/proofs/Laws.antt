-- Inner commands noted one by one.
-- Assumes nothing.
use Prim.Native.Nat.{ℕ, ◌+◌}
use native.Mathlib.Omega.{arith}
use mathlib.Core.Path.{◌≡◌, refl, sym, ap, ◌∙◌}
use mathlib.Core.List.{List, [], ◌∷◌}
use mathlib.Core.Logic.{◌⊎◌, inl, inr}
use lib.ListN.{drop, get_or}
use Rattle.link_direct.proofs.Laws.{sends-cons}
use Rattle.types.specs.declared.Id.{Id}
use Rattle.types.specs.declared.Payload.{Payload}
use Rattle.types.specs.declared.InnerCommand.{InnerCommand}
use Rattle.types.specs.declared.InnerCommand.TheVariants as inner
use Rattle.rules.specs.Link.{Durable, posting, with_inner}
use Rattle.link_direct.specs.Direct.{noted, sends}
use Rattle.link_rows.specs.Rows.{durable_in, HeadLaid, Turned}
use Rattle.link_notes.specs.Views.{Noted}

pub noted-cons : (x : InnerCommand) (os : List InnerCommand) (d : Durable) → noted (x ∷ os) d ≡ noted os (noted (x ∷ []) d)
unfolding noted
noted-cons (inner.SetTimer t) os d = refl
noted-cons (inner.CancelTimer t) os d = refl
noted-cons (inner.Save v) os d = refl
noted-cons (inner.Send r p) os d = refl

module _ (x : InnerCommand) (w : List ℕ) (p : List (List ℕ)) where
  -- A timer is set or cancelled.
  pub note-timer : ((t : ℕ) × (x ≡ inner.SetTimer t)) ⊎ ((t : ℕ) × (x ≡ inner.CancelTimer t)) → Noted (x ∷ []) w p w p
  unfolding noted sends
  note-timer (inl (t, e)) = rw e (record { durable = refl; places = omega arith; numbers = omega arith; after = refl; head = λ fit. fit })
  note-timer (inr (t, e)) = rw e (record { durable = refl; places = omega arith; numbers = omega arith; after = refl; head = λ fit. fit })

  pub note-save : (v : ℕ) → x ≡ inner.Save v → (w' : List ℕ) → Turned (with_inner v) w p w' p → get_or w' 1 0 ≡ get_or w 1 0
      → Noted (x ∷ []) w p w' p
  unfolding noted sends with_inner durable_in
  note-save v e w' q h = rw e (record {
    durable = q.durable;
    places = omega arith;
    numbers = let z = ap (λ (d : Durable). d.next.0) q.durable in omega arith;
    after = q.after;
    head = q.head;
  })

  pub note-send : (r : Id) (y : Payload) → x ≡ inner.Send r y → (w' : List ℕ) (p' : List (List ℕ)) → Turned (posting r y) w p w' p'
      → get_or w' 1 0 ≡ get_or w 1 0 + 1 → Noted (x ∷ []) w p w' p'
  unfolding noted sends posting durable_in
  note-send r y e w' p' q h = rw e (record {
    durable = q.durable;
    places = omega arith;
    numbers = let z = ap (λ (d : Durable). d.next.0) q.durable in omega arith;
    after = q.after;
    head = q.head;
  })

-- ---- on the way: what was noted so far, and the rest
module _ (os : List InnerCommand) (w₀ : List ℕ) (p₀ : List (List ℕ)) where
  pub record Along (w : List ℕ) (p : List (List ℕ)) (rest : List InnerCommand) : Type 0 where
    pub durable : noted rest (durable_in w p) ≡ noted os (durable_in w₀ p₀)
    pub places : get_or w 1 0 + sends rest ≡ get_or w₀ 1 0 + sends os
    pub numbers : get_or w 0 0 + sends rest ≡ get_or w₀ 0 0 + sends os
    pub after : drop 4 w ≡ drop 4 w₀
    pub head : HeadLaid w₀ p₀ → HeadLaid w p

  module _ (w : List ℕ) (p : List (List ℕ)) (rest : List InnerCommand) (on : Along w p rest) where
    pub along-step : (x : InnerCommand) (more : List InnerCommand) → rest ≡ x ∷ more → (w' : List ℕ) (p' : List (List ℕ))
        → Noted (x ∷ []) w p w' p' → Along w' p' more
    along-step x more e w' p' n =
        let s = ap sends e in
        let t = sends-cons x more in
        let a = on.places in
        let b = on.numbers in
        let f = n.places in
        let g = n.numbers in
        record {
          durable = ap (noted more) n.durable ∙ sym (noted-cons x more (durable_in w p))
              ∙ ap (λ (r : List InnerCommand). noted r (durable_in w p)) (sym e) ∙ on.durable;
          places = omega arith;
          numbers = omega arith;
          after = n.after ∙ on.after;
          head = λ fit. n.head (on.head fit);
        }

    pub along-end : rest ≡ [] → Noted os w₀ p₀ w p
    unfolding noted sends
    along-end e =
        let s = ap sends e in
        let a = on.places in
        let b = on.numbers in
        record {
          durable = ap (λ (r : List InnerCommand). noted r (durable_in w p)) (sym e) ∙ on.durable;
          places = omega arith;
          numbers = omega arith;
          after = on.after;
          head = on.head;
        }
