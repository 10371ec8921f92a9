-- Why a loop that reads so many into an array is right: what was read so far stands in front, and the rest is read from the next place on.
-- Assumes nothing.
use Prim.Native.Nat.{ℕ, suc, ◌+◌, ◌-◌, ◌≤◌, ◌<◌}
use native.Mathlib.Omega.{arith}
use mathlib.Core.Path.{◌≡◌, sym, ap, ◌∙◌}
use mathlib.Core.List.{List, []}
use lib.ListN.{take, drop, set}
use Rattle.lists.specs.Lists.{pad}
use Rattle.layout.specs.Read.{read, bad_at, Reader, repeat}
use Rattle.script_rules.proofs.Laws.{more-used, more-laid}
use Rattle.script_opening.proofs.Readings.{gathered, gathered_none, gathered-more, gathered-bad, gathered-all}

-- After i turns the first i places hold what was read, the others z, and the rest is to be read from the next place on.
pub record Reads {A : Type 0} (n : ℕ) (z : A) (f : Reader A) (s : List ℕ) (at count : ℕ) (es : List A) (next i : ℕ) : Type 0 where
  pub some : i ≤ count
  pub laid : es ≡ pad n z (take i es)
  pub ahead : repeat count f (drop at s) at ≡ gathered (take i es) (repeat (count - i) f (drop next s) next)

module _ {A : Type 0} (n : ℕ) (z : A) (f : Reader A) (s : List ℕ) (at count : ℕ) where
  pub reads_none : (es : List A) → es ≡ pad n z [] → Reads n z f s at count es at 0
  reads_none es e =
      let k : count ≡ count - 0 = omega arith in
      record {
        some = omega arith;
        laid = e;
        ahead = gathered_none (repeat count f (drop at s) at) ∙ ap (λ (j : ℕ). gathered [] (repeat j f (drop at s) at)) k;
      }

  module _ {es : List A} {next i : ℕ} (r : Reads n z f s at count es next i) where
    one_more : i < count → repeat count f (drop at s) at ≡ gathered (take i es) (repeat (suc (count - (i + 1))) f (drop next s) next)
    one_more l =
        let k : count - i ≡ suc (count - (i + 1)) = omega arith in
        r.ahead ∙ ap (λ (j : ℕ). gathered (take i es) (repeat j f (drop next s) next)) k

    pub reads_more : {a : A} {after : ℕ} → count ≤ n → i < count → f (drop next s) next ≡ read a (drop after s) after
        → Reads n z f s at count (set es i a) after (i + 1)
    reads_more {a} {after} room l e =
        let w : es ≡ pad n z (take i es) = r.laid in
        record {
          some = omega arith;
          laid = more-laid n z es i (omega arith) w a;
          ahead = one_more l
              ∙ gathered-more f (take i es) (count - (i + 1)) (drop next s) next e
              ∙ ap (λ (t : List A). gathered t (repeat (count - (i + 1)) f (drop after s) after)) (sym (more-used n z es i (omega arith) w a));
        }

    pub reads-bad : {q : ℕ} → i < count → f (drop next s) next ≡ bad_at q → repeat count f (drop at s) at ≡ bad_at q
    reads-bad l e = one_more l ∙ gathered-bad f (take i es) (count - (i + 1)) (drop next s) next e

    pub reads_all : count ≤ i → repeat count f (drop at s) at ≡ read (take i es) (drop next s) next
    reads_all l =
        let k : count - i ≡ 0 = omega arith in
        r.ahead
        ∙ ap (λ (j : ℕ). gathered (take i es) (repeat j f (drop next s) next)) k
        ∙ gathered-all f (take i es) (drop next s) next
