-- A field is the front of the 64 bits that begin where it does.
use native.Mathlib.Omega.{arith}
use Prim.Native.Nat.{◌+◌, ◌-◌}
use mathlib.Core.Path.{◌≡◌, ap, ◌∙◌}
use Rattle.layout.specs.Bits.{field_at}
use Rattle.script_bits.proofs.Laws.{front}
use Rattle.script_bits.proofs.field.Goals as goal

pub returns-then-width-eq0 : goal.returns-then-width-eq0
unfolding field_at
returns-then-width-eq0 c = rw c.if-width-eq0.true

pub returns : goal.returns
returns c =
    let a = c.args in
    let q : 64 ≡ a.width + (64 - a.width) = omega arith in
    front a.s.now a.at a.width (64 - a.width) (c.window.ensures ∙ ap (field_at a.s.now a.at) q)
