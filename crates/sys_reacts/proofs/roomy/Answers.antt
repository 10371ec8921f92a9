-- What the search leaves open of `roomy`.
use native.Mathlib.Omega.{arith}
use mathlib.Core.Bool.{false}
use mathlib.Core.Path.{refl}
use borrow.Author.Tests.{leb-true}
use Rattle.sys_emits.proofs.Laws.{not-both}
use Rattle.sys_reacts.proofs.roomy.Goals as goal

pub returns-then-places-sends : goal.returns-then-places-sends
returns-then-places-sends c = λ h. absurd (not-both false h refl)

pub returns-then-len : goal.returns-then-len
returns-then-len c = λ h. absurd (not-both false h refl)

pub returns : goal.returns
returns c = λ h. let a = c.args in let p = leb-true a.sends _ h in (omega arith, omega arith)
