-- What the search leaves open of `read_many`.
use Prim.Native.Nat.{ℕ, ◌-◌}
use native.Mathlib.Omega.{arith}
use mathlib.Core.Path.{◌≡◌, sym, ap, ◌∙◌}
use mathlib.Core.List.{List}
use lib.ListN.{replicate}
use Rattle.std.specs.Prelude.{Ok}
use Rattle.lists.specs.Lists.{pad}
use Rattle.script_places.specs.Views.{same, result_of}
use Rattle.script_places.proofs.Says.{failed}
use Rattle.script_opening.proofs.Readings.{found_same, missed}
use Rattle.script_opening.proofs.Loops.{reads_none, reads_more, reads-bad, reads_all}
use Rattle.script_opening.proofs.read_many.Goals as goal

pub loop-i-init : goal.loop-i-init
unfolding pad
loop-i-init g c =
    let a = c.args in
    let n : g.row.N ≡ g.row.N - 0 = omega arith in
    reads_none g.row.N a.blank g.reader a.script.now a.at a.count _ (ap (λ (k : ℕ). replicate k a.blank) n)

pub loop-i-preserved : goal.loop-i-preserved
loop-i-preserved g c =
    let a = c.args in
    let l = c.loop-i in
    let h = c.requires.1.1.1.1.1.1 in
    reads_more g.row.N a.blank g.reader a.script.now a.at a.count l.invariant (omega arith) (omega arith)
    (found_same g.reader a.script.now l.next h.0 (h.1 l.next _ c.in_ok-value.ensures))

pub returns-in_err-value : goal.returns-in_err-value
returns-in_err-value g c =
    let a = c.args in
    let l = c.loop-i in
    let h = c.requires.1.1.1.1.1.1 in
    failed _ c.from_residual.ensures.1
    ∙ sym (ap (result_of (pad g.row.N a.blank))
    (reads-bad g.row.N a.blank g.reader a.script.now a.at a.count l.invariant (omega arith)
    (missed same g.reader a.script.now l.next (h.1 l.next _ c.in_err-value.ensures))))

pub returns : goal.returns
returns g c =
    let a = c.args in
    let l = c.loop-i in
    ap (λ (t : List _). Ok (t, l.next)) l.invariant.laid
    ∙ sym (ap (result_of (pad g.row.N a.blank)) (reads_all g.row.N a.blank g.reader a.script.now a.at a.count l.invariant (omega arith)))
