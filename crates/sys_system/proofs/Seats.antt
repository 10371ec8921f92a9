-- Actors beside their tables: the list that they are seen as, and the arrays that hold it.
-- Assumes nothing.
use Prim.Native.Nat.{ℕ, zero, suc, ◌<◌}
use native.Mathlib.Omega.{arith}
use mathlib.Core.Path.{◌≡◌, refl, ap, ap₂, ◌∙◌}
use mathlib.Core.Bool.{true}
use mathlib.Core.List.Memᴰ
use mathlib.Core.List.{List, [], ◌∷◌, map, zip_with}
use lib.ListN.{length, get_or}
use Rattle.lists.specs.Lists.{◌∈◌, all}
use Rattle.lists.proofs.Members.{and_both, and-make}
use Rattle.types.specs.declared.Rule.{Rule}
use Rattle.rules.specs.Outcome.{base}
use Rattle.rules.specs.System as rules
use Rattle.rules.specs.WellFormed.{actor_ok}
use Rattle.link_inner.specs.declared.Table.{Table}
use Rattle.link_inner.specs.Views.{rules_of, table_ok}
use Rattle.sys_actor.specs.declared.Actor.{Actor}
use Rattle.sys_actor.specs.Views.{actor_view, actor_as, ActorLaid, actor_laid, actor_fine}
use Rattle.sys_actor.proofs.Laws.{actor-back, actor-formed, formed-fine, timers-of}
use Rattle.sys_system.specs.Views.{TableLaid, seated, table_for, table_laid}
use Rattle.sys_system.proofs.Tables.{table-parts, table-make, rules-back}

-- ---- two lists side by side
module _ {A B C : Type 0} (f : A → B → C) where
  pub zip_length : (xs : List A) (ys : List B) → length xs ≡ length ys → length (zip_with f xs ys) ≡ length ys
  unfolding zip_with
  zip_length [] [] e = refl
  zip_length [] (y ∷ ys) e = absurd (omega arith)
  zip_length (x ∷ xs) [] e = refl
  zip_length (x ∷ xs) (y ∷ ys) e = ap suc (zip_length xs ys (omega arith))

  pub zip_get : (xs : List A) (ys : List B) (i : ℕ) (a : A) (b : B) (c : C) → i < length xs → i < length ys
      → get_or (zip_with f xs ys) i c ≡ f (get_or xs i a) (get_or ys i b)
  unfolding zip_with
  zip_get [] ys i a b c h k = absurd (omega arith)
  zip_get (x ∷ xs) [] i a b c h k = absurd (omega arith)
  zip_get (x ∷ xs) (y ∷ ys) zero a b c h k = refl
  zip_get (x ∷ xs) (y ∷ ys) (suc i) a b c h k = zip_get xs ys i a b c (omega arith) (omega arith)

-- ---- the arrays again
pub actors-again : (ts : List Table) (bs : List Actor) → length ts ≡ length bs → ((a : Actor) → a ∈ bs → ActorLaid a) → bs
    ≡ map actor_as (zip_with seated ts bs)
unfolding zip_with
actors-again [] [] e f = refl
actors-again [] (a ∷ bs) e f = absurd (omega arith)
actors-again (t ∷ ts) [] e f = refl
actors-again (t ∷ ts) (a ∷ bs) e f =
    ap₂ (λ (x : Actor) (l : List Actor). x ∷ l) (f a (Memᴰ.head refl)) (actors-again ts bs (omega arith) (λ b m. f b (Memᴰ.tail m)))

pub tables-again : (ts : List Table) (bs : List Actor) → length ts ≡ length bs → ((t : Table) → t ∈ ts → TableLaid t) → ts
    ≡ map table_for (zip_with seated ts bs)
unfolding zip_with
tables-again [] [] e f = refl
tables-again [] (a ∷ bs) e f = refl
tables-again (t ∷ ts) [] e f = absurd (omega arith)
tables-again (t ∷ ts) (a ∷ bs) e f =
    ap₂ (λ (x : Table) (l : List Table). x ∷ l) (f t (Memᴰ.head refl)) (tables-again ts bs (omega arith) (λ b m. f b (Memᴰ.tail m)))

-- ---- the tests of the two arrays, and of the actors that are seen
module _ (k : ℕ) where
  pub seats-formed : (ts : List Table) (bs : List Actor) → all table_ok ts ≡ true → all (actor_fine k) bs ≡ true
      → all (actor_ok base.limits k) (zip_with seated ts bs) ≡ true
  unfolding zip_with all
  seats-formed [] bs e f = refl
  seats-formed (t ∷ ts) [] e f = refl
  seats-formed (t ∷ ts) (a ∷ bs) e f =
      let p = and_both (table_ok t) _ e in let q = and_both (actor_fine k a) _ f in
      and-make _ _ (actor-formed (rules_of t) k a (table-parts t p.0).1 q.0) (seats-formed ts bs p.1 q.1)

  pub seats-fine : (ts : List Table) (bs : List Actor) → length ts ≡ length bs → all table_laid ts ≡ true → all actor_laid bs ≡ true
      → all (actor_ok base.limits k) (zip_with seated ts bs) ≡ true
      → (all table_ok ts ≡ true) × (all (actor_fine k) bs ≡ true)
  unfolding zip_with all
  seats-fine [] [] n e f g = (refl, refl)
  seats-fine [] (a ∷ bs) n e f g = absurd (omega arith)
  seats-fine (t ∷ ts) [] n e f g = absurd (omega arith)
  seats-fine (t ∷ ts) (a ∷ bs) n e f g =
      let p = and_both (table_laid t) _ e in let q = and_both (actor_laid a) _ f in let r = and_both (actor_ok base.limits k (seated t a)) _ g in
      let h = formed-fine (rules_of t) k a q.0 r.0 in let m = seats-fine ts bs (omega arith) p.1 q.1 r.1 in
      (and-make _ _ (table-make t p.0 h.0) m.0, and-make _ _ h.1 m.1)

  -- ---- the arrays of actors that are well formed
  pub seen-again : (l : List rules.Actor) → all (actor_ok base.limits k) l ≡ true → zip_with seated (map table_for l) (map actor_as l) ≡ l
  unfolding zip_with all
  seen-again [] e = refl
  seen-again (a ∷ l) e =
      let p = and_both (actor_ok base.limits k a) _ e in
      ap₂ (λ (x : rules.Actor) (m : List rules.Actor). x ∷ m)
      (ap (λ (rs : List Rule). actor_view rs (actor_as a)) (rules-back a.rules) ∙ actor-back a (timers-of k a p.0)) (seen-again l p.1)
