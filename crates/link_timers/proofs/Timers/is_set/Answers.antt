-- Digit t of the word says whether t is listed.
use mathlib.Core.Path.{sym, ap, ◌∙◌}
use Prim.Native.Nat.{ℕ, ◌/◌, ◌^◌}
use lib.Bits.{and_mask}
use lib.Dec.{eqb}
use borrow.Author.Tests.{lt-leb}
use Rattle.types.specs.Capacities.{network}
use borrow.Author.Rules.{rules}
use Rattle.rules.proofs.Timers.{not_in}
use Rattle.link_timers.specs.Views.{listed}
use Rattle.link_timers.proofs.Listed.{digit_set, listed-timers}
use Rattle.link_timers.proofs.Timers.is_set.Goals as goal

pub returns-then-t-le-NETWORK : goal.returns-then-t-le-NETWORK
returns-then-t-le-NETWORK c =
    let a = c.args in
    ap (λ (n : ℕ). eqb n 1) (and_mask (a.self.0 / 2 ^ a.t) 1) ∙ sym (digit_set a.self.0 a.t (search rules))

pub returns-else-t-le-NETWORK : goal.returns-else-t-le-NETWORK
returns-else-t-le-NETWORK c =
    let a = c.args in
    rw (lt-leb a.t network (search rules)) (sym (not_in a.t (listed a.self.0) (listed-timers a.self.0) (search rules)))
