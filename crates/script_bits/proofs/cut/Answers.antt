-- From the first word on a field is the front of the 64 bits that begin where it does. In the second word it is moved to the front.
use native.Mathlib.Omega.{arith}
use Prim.Native.Nat.{ℕ, ◌+◌, ◌-◌, ◌<◌, ◌^◌}
use mathlib.Core.Path.{◌≡◌, ap, ◌∙◌}
use lib.Dec.{lit<}
use lib.Pow.{shr_lt, pow_pos}
use native.Mathlib.Nat.{mod-lt}
use Rattle.layout.specs.Bits.{field_at}
use Rattle.script_bits.proofs.Laws.{front, second_is}
use borrow.Author.Rules.{rules}
use Rattle.script_bits.proofs.cut.Goals as goal

pub returns-then-width-eq0 : goal.returns-then-width-eq0
unfolding field_at
returns-then-width-eq0 c = record {
  cuts = λ xs h. rw c.if-width-eq0.true;
  fits = rw c.if-width-eq0.true (lit< tt);
}

pub returns-then-at-lt64 : goal.returns-then-at-lt64
returns-then-at-lt64 c =
    let a = c.args in
    let q : 64 ≡ a.width + (64 - a.width) = omega arith in
    let b : c.across.result < 2 ^ 64 = search rules in record {
      cuts = λ xs h. front xs a.at a.width (64 - a.width) (c.across.ensures xs h ∙ ap (field_at xs a.at) q);
      fits = shr_lt a.width (64 - a.width) (rw (← q) b);
    }

pub returns : goal.returns
returns c =
    let a = c.args in
    let q : a.width + (64 - a.width) ≡ 64 = omega arith in
    let p : 64 + (a.at - 64) ≡ a.at = omega arith in record {
      cuts = λ xs h. second_is xs (a.at - 64) a.width a.v (omega arith) h.second ∙ ap (λ (j : ℕ). field_at xs j a.width) p;
      fits = shr_lt a.width (64 - a.width) (rw q (mod-lt _ (pow_pos 64)));
    }
