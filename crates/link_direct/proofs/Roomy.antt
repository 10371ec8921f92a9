-- Where the network has room for one entry and one copy more, a send is not refused: a send makes at most one of each.
-- Assumes nothing.
use Prim.Native.Nat.{ℕ, suc, ◌+◌, ◌≤◌, ◌<◌}
use native.Mathlib.Omega.{arith}
use mathlib.Core.Path.{◌≡◌, refl}
use mathlib.Core.Bool.{Bool, true, false}
use mathlib.Core.List.{List, [], ◌∷◌}
use lib.ListN.{length}
use lib.Dec.{leb}
use borrow.Author.Tests.{le-leb}
use Rattle.lists.specs.Lists.{choose, all, place}
use Rattle.types.specs.declared.Envelope.{Envelope}
use Rattle.types.specs.declared.Entry.{Entry}
use Rattle.types.specs.declared.Kind.{Kind}
use Rattle.types.specs.declared.Kind.TheVariants.{Ordered, UnorderedDuplicating, UnorderedNonDuplicating}
use Rattle.rules.specs.Outcome.{done, guard, Room}
use Rattle.rules.specs.Network.{Net, single, again, put, sending, fits, send, len}

module _ (h : Entry → Bool) (m : Entry → Entry) (b : Entry → Bool) (n : Entry) where
  place-length : (l : List Entry) → length (place h m b n l) ≤ suc (length l)
  unfolding place choose
  place-length [] = omega arith
  place-length (x ∷ l) = go (h x) (b x) (place-length l)
    where
      go : (t u : Bool) → length (place h m b n l) ≤ suc (length l)
          → length (choose t (m x ∷ l) (choose u (n ∷ x ∷ l) (x ∷ place h m b n l))) ≤ suc (suc (length l))
      go true u k = omega arith
      go false true k = omega arith
      go false false k = omega arith

  place-len : n.count ≡ 1 → ((x : Entry) → (m x).count ≤ suc x.count) → (l : List Entry) → len (place h m b n l) ≤ suc (len l)
  unfolding place choose len
  place-len one up [] = omega arith
  place-len one up (x ∷ l) = go (h x) (b x) (place-len one up l)
    where
      go : (t u : Bool) → len (place h m b n l) ≤ suc (len l)
          → len (choose t (m x ∷ l) (choose u (n ∷ x ∷ l) (x ∷ place h m b n l))) ≤ suc (x.count + len l)
      go true u k = omega (arith, up x)
      go false true k = omega arith
      go false false k = omega arith

again-few : (k : Kind) (x : Entry) → (again k x).count ≤ suc x.count
unfolding again
again-few Ordered x = omega arith
again-few UnorderedDuplicating x = omega arith
again-few UnorderedNonDuplicating x = omega arith

pub put-length : (k : Kind) (e : Envelope) (l : List Entry) → length (put k e l) ≤ suc (length l)
unfolding put
put-length k e l = place-length _ _ _ _ l

pub put-len : (k : Kind) (e : Envelope) (l : List Entry) → len (put k e l) ≤ suc (len l)
unfolding put single
put-len k e l = place-len _ (again k) _ _ refl (again-few k) l

-- Each count is at most all of them.
counts-few : (most : ℕ) (l : List Entry) → len l ≤ most → all (λ x. leb x.count most) l ≡ true
unfolding all len
counts-few most [] h = refl
counts-few most (x ∷ l) h = let z = counts-few most l (omega arith) in rw (le-leb x.count most (omega arith), z)

pub send-goes : (c : Room) (e : Envelope) (n : Net) → length n.entries < c.entries → len n.entries < c.copies → send c e n ≡ done (sending e n)
unfolding send sending fits guard
send-goes c e n h k =
    let p = put-length n.kind e n.entries in
    let q = put-len n.kind e n.entries in
    let w = counts-few c.copies (put n.kind e n.entries) (omega arith) in
    rw (le-leb (length (put n.kind e n.entries)) c.entries (omega arith), w)
