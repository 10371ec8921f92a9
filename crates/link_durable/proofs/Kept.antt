-- What is stored, part by part; and what the tests say of a struct that holds a well-formed durable part. Well formed bounds the
-- lists, so that they fit their arrays.
-- Assumes nothing.
use Prim.Native.Nat.{ℕ, ◌≤◌}
use native.Mathlib.Omega.{arith}
use mathlib.Core.Path.{◌≡◌, refl, ◌∙◌}
use mathlib.Core.Bool.{true, false, and-true}
use Rattle.std.specs.Prelude.{Option, Some, None}
use mathlib.Core.List.{[], ◌∷◌}
use lib.Dec.{lit≤}
use Rattle.lists.specs.Lists.{choose, every}
use Rattle.lists.proofs.Members.{every-cons, every-make, every-nil}
use Rattle.types.specs.Capacities.{most_actors}
use Rattle.rules.specs.Outcome.{base}
use Rattle.rules.specs.Link as rules
use Rattle.rules.specs.WellFormed.{durable_ok, stored_ok}
use Rattle.rules.proofs.FormedLink as formed
use Rattle.link_durable.specs.declared.Durable.{Durable}
use Rattle.link_durable.specs.declared.Stored.{Stored}
use Rattle.link_durable.specs.Views.{durable_view, durable_as, stored_view, stored_as, zero_durable, durable_laid, unsaved, blank_durable, stored_laid}
use Rattle.link_durable.specs.Views.{durable_fine, stored_fine}
use Rattle.link_durable.proofs.Containers.{durable-fits, durable-back}

pub stored_some : (k : ℕ) (s : Stored) → s.some ≡ true → stored_fine k s ≡ durable_fine k s.durable
unfolding stored_fine stored_laid stored_view stored_ok durable_fine every choose
stored_some k s e = rw e (simp and-true)

pub stored-none : (k : ℕ) (s : Stored) → s.some ≡ false → stored_fine k s ≡ every (durable_laid s.durable ∷ blank_durable s.durable ∷ [])
unfolding stored_fine stored_laid stored_view stored_ok every choose
stored-none k s e = rw e (simp and-true)

-- What passes the tests is laid out, and well formed.
pub fine-laid : (k : ℕ) (d : Durable) → durable_fine k d ≡ true → durable_laid d ≡ true
unfolding durable_fine
fine-laid k d e = (every-cons _ _ e).0

pub fine-formed : (k : ℕ) (d : Durable) → durable_fine k d ≡ true → durable_ok base.limits k (durable_view d) ≡ true
unfolding durable_fine
fine-formed k d e = (every-cons _ _ (every-cons _ _ e).1).0

pub stored-laid : (k : ℕ) (s : Stored) → stored_fine k s ≡ true → stored_laid s ≡ true
unfolding stored_fine
stored-laid k s e = (every-cons _ _ e).0

pub stored-formed : (k : ℕ) (s : Stored) → stored_fine k s ≡ true → stored_ok base.limits k (stored_view s) ≡ true
unfolding stored_fine
stored-formed k s e = (every-cons _ _ (every-cons _ _ e).1).0

-- A durable part that is well formed among at most so many actors passes, and so does what stores it.
pub durable-kept : (k : ℕ) (d : rules.Durable) → k ≤ most_actors → durable_ok base.limits k d ≡ true → durable_fine k (durable_as d) ≡ true
unfolding durable_fine
durable-kept k d h e =
    let f = formed.durable-is base.limits k d e in
    let p = f.few in let t = f.tooks in
    every-make _ _ (durable-fits d p (omega arith)) (every-make _ _ (rw (durable-back d) e) every-nil)

some-ok : (k : ℕ) (d : rules.Durable) → stored_ok base.limits k (Some d) ≡ true → durable_ok base.limits k d ≡ true
unfolding stored_ok
some-ok k d e = e

pub stored-kept : (k : ℕ) (st : Option rules.Durable) → k ≤ most_actors → stored_ok base.limits k st ≡ true → stored_fine k (stored_as st) ≡ true
unfolding unsaved blank_durable every
stored-kept k None h e =
    let l = durable-fits zero_durable (lit≤ tt) (lit≤ tt) in
    rw (stored-none k (stored_as None) refl) (rw l)
stored-kept k (Some d) h e = stored_some k (stored_as (Some d)) refl ∙ durable-kept k d h (some-ok k d e)
