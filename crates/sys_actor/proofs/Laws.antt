-- What the tests of an actor say: one that passes is laid out and well formed beside a sound table, and one that is blank is the zero actor.
-- Assumes nothing.
use Prim.Native.Nat.{ℕ, ◌≤◌, ◌<◌}
use mathlib.Core.Path.{◌≡◌, refl, sym, ap, ◌∙◌}
use mathlib.Core.Bool.{Bool, true, false, not, ◌&&◌, ◌||◌, and-true, true≢false, false≢true}
use Rattle.std.specs.Prelude.{Option, Some, None}
use mathlib.Core.List.{List, []}
use lib.ListN.{length, take}
use lib.Dec.{leb, eqb, lit≤}
use borrow.Author.Tests.{leb-true, le-leb, eqb-true}
use Rattle.types.specs.Capacities.{most_pending, most_actors, last_state, network}
use Rattle.lists.specs.Lists.{choose, every}
use Rattle.lists.proofs.Members.{every-cons, every-make, every-nil, all_in, all-make, not-true}
use Rattle.lists.proofs.Chains.{chain-is, is-chain}
use Rattle.types.specs.declared.Rule.{Rule}
use Rattle.rules.specs.Outcome.{base}
use Rattle.rules.specs.Link as rules
use Rattle.rules.specs.System as system
use Rattle.rules.specs.WellFormed.{sound, actor_ok}
use Rattle.rules.proofs.Timers.{TimerSet}
use Rattle.link_timers.proofs.Listed.{timers-listed, listed-timers, listed-timers-of}
use Rattle.link_durable.specs.declared.Durable.{Durable}
use Rattle.link_durable.specs.declared.Stored.{Stored}
use Rattle.link_durable.specs.Views.{
  zero_durable,
  durable_view,
  durable_as,
  stored_view,
  stored_as,
  durable_laid,
  unsaved,
  blank_durable,
  stored_laid,
  durable_fine,
  stored_fine,
}
use Rattle.link_durable.proofs.Containers.{DurableLaid, durable-is, durable-fits, durable-back, durable-same}
use Rattle.link_durable.proofs.Kept.{fine-laid, fine-formed, stored-laid, stored-formed, durable-kept, stored-kept}
use Rattle.sys_actor.specs.declared.Actor.{Actor}
use Rattle.sys_actor.specs.Views.{actor_view, actor_as, ActorLaid, actor_laid, quiet, link_fine, rest_fine, actor_fine, zero_actor, zeroed, marks_zero, parts_zero, blank_actor}

-- ---- seen again in their structs
stored_back : (o : Option rules.Durable) → stored_view (stored_as o) ≡ o
unfolding stored_view choose
stored_back None = refl
stored_back (Some d) = ap Some (durable-back d)

pub actor-back : (a : system.Actor) → TimerSet a.timers → actor_view a.rules (actor_as a) ≡ a
actor-back a h =
    let t = listed-timers-of a.timers h in let d = durable-back a.link.durable in let s = stored_back a.storage in
    λ i. record { rules = a.rules; crashed = a.crashed; timers = t i; link = record { durable = d i; state = a.link.state }; storage = s i }

-- ---- durable parts that are all zero, and what is stored
is-unsaved : (s : Option ℕ) → unsaved s ≡ true → s ≡ None
unfolding unsaved
is-unsaved None e = refl
is-unsaved (Some v) e = absurd (true≢false (sym e))

none_of : {A : Type 0} (n : ℕ) (l : List A) → n ≡ 0 → take n l ≡ []
none_of {A} n l e = ap (λ (k : ℕ). take k l) e

module _ (d : Durable) (laid : DurableLaid d) where
  zero-durable : blank_durable d ≡ true → d ≡ durable_as zero_durable
  unfolding blank_durable
  zero-durable e =
      let a = every-cons _ _ e in let b = every-cons _ _ a.1 in let c = every-cons _ _ b.1 in
      let n = eqb-true d.next.0 0 a.0 in
      let p : take d.pending.used d.pending.places ≡ [] = none_of d.pending.used d.pending.places (eqb-true _ _ b.0) in
      let t : take d.taken.used d.taken.places ≡ [] = none_of d.taken.used d.taken.places (eqb-true _ _ c.0) in
      let s = is-unsaved d.inner (every-cons _ _ c.1).0 in
      durable-same d laid ∙ λ i. durable_as (record { next = record { 0 = n i }; pending = p i; taken = t i; inner = s i })

module _ (s : Stored) (laid : DurableLaid s.durable) where
  stored_same : stored_laid s ≡ true → s ≡ stored_as (stored_view s)
  unfolding stored_laid stored_view choose
  stored_same e = go s.some refl (every-cons _ _ (every-cons _ _ e).1).0
    where
      go : (b : Bool) → s.some ≡ b → (b || blank_durable s.durable) ≡ true → s ≡ stored_as (choose b (Some (durable_view s.durable)) None)
      go true f h = λ i. record { some = f i; durable = durable-same s.durable laid i }
      go false f h = λ i. record { some = f i; durable = zero-durable s.durable laid h i }

-- ---- an actor that passes
-- What the type says of any actor: the lengths of its arrays, and a word of 32 bits.
pub record Typed (a : Actor) : Type 0 where
  pub pending : length a.link.durable.pending.places ≡ most_pending
  pub taken : length a.link.durable.taken.places ≡ most_actors
  pub stored-pending : length a.stored.durable.pending.places ≡ most_pending
  pub stored-taken : length a.stored.durable.taken.places ≡ most_actors
  pub word : a.timers.0 < 4294967296

pub record Fine (k : ℕ) (a : Actor) : Type 0 where
  pub durable : durable_fine k a.link.durable ≡ true
  pub state : leb a.link.state last_state ≡ true
  pub stored : stored_fine k a.stored ≡ true
  pub still : quiet a ≡ true

pub fine-is : (k : ℕ) (a : Actor) → actor_fine k a ≡ true → Fine k a
unfolding actor_fine
fine-is k a e =
    let b = every-cons _ _ e in let c = every-cons _ _ b.1 in let d = every-cons _ _ c.1 in
    record { durable = b.0; state = c.0; stored = d.0; still = (every-cons _ _ d.1).0 }

is-fine : (k : ℕ) (a : Actor) → Fine k a → actor_fine k a ≡ true
unfolding actor_fine
is-fine k a f = every-make _ _ f.durable (every-make _ _ f.state (every-make _ _ f.stored (every-make _ _ f.still every-nil)))

pub fine-laid-out : (k : ℕ) (a : Actor) → actor_fine k a ≡ true → actor_laid a ≡ true
unfolding actor_laid
fine-laid-out k a e = let f = fine-is k a e in every-make _ _ (fine-laid k _ f.durable) (every-make _ _ (stored-laid k _ f.stored) every-nil)

pub stored-parts : (s : Stored) → stored_laid s ≡ true → durable_laid s.durable ≡ true
unfolding stored_laid
stored-parts s e = (every-cons _ _ e).0

module _ (a : Actor) (t : Typed a) where
  link-is : durable_laid a.link.durable ≡ true → DurableLaid a.link.durable
  link-is e = durable-is a.link.durable t.pending t.taken e

  store_is : durable_laid a.stored.durable ≡ true → DurableLaid a.stored.durable
  store_is e = durable-is a.stored.durable t.stored-pending t.stored-taken e

  stored_is : stored_laid a.stored ≡ true → a.stored ≡ stored_as (stored_view a.stored)
  stored_is e = stored_same a.stored (store_is (stored-parts a.stored e)) e

  pub actor-laid : actor_laid a ≡ true → ActorLaid a
  unfolding actor_laid
  actor-laid e =
      let b = every-cons _ _ e in
      let w = sym (timers-listed a.timers t.word) in
      let d = durable-same a.link.durable (link-is b.0) in
      let s = stored_is (every-cons _ _ b.1).0 in
      λ i. record { crashed = a.crashed; timers = w i; link = record { durable = d i; state = a.link.state }; stored = s i }

  -- An actor that is blank is the zero actor.
  pub blank-zero : blank_actor a ≡ true → a ≡ zero_actor
  unfolding blank_actor zeroed
  blank-zero e =
      let b = every-cons _ _ e in let c = every-cons _ _ b.1 in let d = every-cons _ _ c.1 in let f = every-cons _ _ d.1 in
      let g = every-cons _ _ f.1 in
      let m = every-cons _ _ g.0 in let n = every-cons _ _ (every-cons _ _ g.1).0 in
      let x = not-true a.crashed b.0 in let y = eqb-true a.timers.0 0 c.0 in
      let z = eqb-true a.link.state 0 d.0 in let s = not-true a.stored.some f.0 in
      let l = zero-durable a.link.durable (link-is m.0) (every-cons _ _ m.1).0 in
      let h = zero-durable a.stored.durable (store_is n.0) (every-cons _ _ n.1).0 in
      λ i. record { crashed = x i; timers = record { 0 = y i }; link = record { durable = l i; state = z i }; stored = record { some = s i; durable = h i } }

pub zero-blank : blank_actor zero_actor ≡ true
unfolding blank_actor zeroed blank_durable unsaved every
zero-blank = rw (durable-fits zero_durable (lit≤ tt) (lit≤ tt))

-- ---- well formed beside a sound table
module _ (rs : List Rule) (k : ℕ) (a : Actor) where
  pub actor-formed : sound rs ≡ true → actor_fine k a ≡ true → actor_ok base.limits k (actor_view rs a) ≡ true
  unfolding actor_ok quiet
  actor-formed h e =
      let f = fine-is k a e in let t = listed-timers a.timers.0 in
      every-make _ _ h (every-make _ _ (all-make _ _ (λ x m. le-leb x network (t.most x m))) (every-make _ _ (is-chain _ _ t.up) (every-make _ _ f.still
      (every-make _ _ (fine-formed k _ f.durable) (every-make _ _ f.state (every-make _ _ (stored-formed k _ f.stored) every-nil))))))

  -- The other way: one that is laid out passes, and its rules are sound.
  pub formed-fine : actor_laid a ≡ true → actor_ok base.limits k (actor_view rs a) ≡ true → (sound rs ≡ true) × (actor_fine k a ≡ true)
  unfolding actor_laid actor_ok quiet durable_fine stored_fine
  formed-fine l e =
      let p = every-cons _ _ l in
      let a1 = every-cons _ _ e in let a2 = every-cons _ _ a1.1 in let a3 = every-cons _ _ a2.1 in let a4 = every-cons _ _ a3.1 in
      let a5 = every-cons _ _ a4.1 in let a6 = every-cons _ _ a5.1 in let a7 = every-cons _ _ a6.1 in (
        a1.0,
        is-fine k a (record {
          durable = every-make _ _ p.0 (every-make _ _ a5.0 every-nil);
          state = a6.0;
          stored = every-make _ _ (every-cons _ _ p.1).0 (every-make _ _ a7.0 every-nil);
          still = a4.0;
        }),
      )

-- ---- the struct of a well-formed actor
module _ (k : ℕ) (a : system.Actor) (ok : actor_ok base.limits k a ≡ true) where
  pub timers-of : TimerSet a.timers
  unfolding actor_ok
  timers-of =
      let a2 = every-cons _ _ (every-cons _ _ ok).1 in
      record { most = λ t m. leb-true t network (all_in _ _ a2.0 t m); up = chain-is _ _ (every-cons _ _ a2.1).0 }

  pub rules-of : sound a.rules ≡ true
  unfolding actor_ok
  rules-of = (every-cons _ _ ok).0

  pub actor-kept : k ≤ most_actors → actor_fine k (actor_as a) ≡ true
  unfolding actor_ok quiet
  actor-kept h =
      let a3 = every-cons _ _ (every-cons _ _ (every-cons _ _ ok).1).1 in let a4 = every-cons _ _ a3.1 in
      let a5 = every-cons _ _ a4.1 in let a6 = every-cons _ _ a5.1 in let a7 = every-cons _ _ a6.1 in
      let t = listed-timers-of a.timers timers-of in
      is-fine k (actor_as a) (record {
        durable = durable-kept k _ h a5.0;
        state = a6.0;
        stored = stored-kept k _ h a7.0;
        still = rw t a4.0;
      })

-- ---- the code's answers, by the parts that it asks
all_four : (a b c d : Bool) → (a && (b && (c && (d && true)))) ≡ ((a && b) && (c && d))
all_four true true c d = rw (and-true d)
all_four true false c d = refl
all_four false b c d = refl

all-six : (a b c d e f : Bool) → (a && (b && (c && (d && (e && (f && true)))))) ≡ ((a && (b && (c && d))) && (e && f))
all-six true true true true e f = rw (and-true f)
all-six true true true false e f = refl
all-six true true false d e f = refl
all-six true false c d e f = refl
all-six false b c d e f = refl

-- ---- the code's answers: a refusal says nothing more
pub refuses : {P : Type 0} (b : Bool) → b ≡ false → (false ≡ b) × (false ≡ true → P)
refuses b e = (sym e, λ t. absurd (false≢true t))

pub tells : {P : Type 0} (b r : Bool) → (b ≡ true → P) → r ≡ b → (r ≡ b) × (r ≡ true → P)
tells b r f e = (e, λ t. f (sym e ∙ t))

module _ (a : Actor) (t : Typed a) (r : Bool) where
  pub told-fine : (k : ℕ) → (link_fine k a.link && rest_fine k a) ≡ r → (r ≡ actor_fine k a) × (r ≡ true → ActorLaid a)
  unfolding actor_fine every
  told-fine k e =
      tells (actor_fine k a) r (λ f. actor-laid a t (fine-laid-out k a f))
      (sym (all_four (durable_fine k a.link.durable) (leb a.link.state last_state) (stored_fine k a.stored) (quiet a) ∙ e))

  pub told_blank : (marks_zero a && parts_zero a) ≡ r → (r ≡ blank_actor a) × (r ≡ true → a ≡ zero_actor)
  unfolding blank_actor every
  told_blank e =
      tells (blank_actor a) r (blank-zero a t)
      (sym (all-six (not a.crashed) (eqb a.timers.0 0) (eqb a.link.state 0) (not a.stored.some) (zeroed a.link.durable) (zeroed a.stored.durable) ∙ e))
