-- The bits of the first word behind its first `at`, and so many of the second word.
use native.Mathlib.Omega.{arith}
use Prim.Native.Nat.{◌<◌, ◌^◌}
use Rattle.script_bits.proofs.Laws.{across-is, across-fits}
use borrow.Author.Rules.{rules}
use Rattle.script_bits.proofs.across.Goals as goal

pub overflow_add-result : goal.overflow_add-result
overflow_add-result c =
    let a = c.args in
    let b : a.v < 2 ^ 64 = search rules in
    omega (arith, across-fits a.at a.w a.v (omega arith) b)

pub returns : goal.returns
returns c = across-is c.args.at c.args.w c.args.v (omega arith)
