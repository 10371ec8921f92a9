-- What the search leaves open of `listed_from`. What is left of the entries is what the slice from the place on has.
-- Assumes nothing.
use Rattle.std.proofs.Common.{◌≡◌, ◌≤◌, ◌+◌, drop, length, rules, arith, sym, ◌∙◌, ⊎_elim}
use Rattle.std.proofs.lemmas.Slice.{between_to_end}
use Rattle.net_listing.proofs.Loops.{listed-found, listed-turn, listed-over}
use Rattle.net_listing.proofs.listed_from.Goals as goal

pub returns-in_err-left : goal.returns-in_err-left
returns-in_err-left c =
    let a = c.args in
    let past : length a.entries.now ≤ a.at = ⊎_elim (λ h. omega arith) (λ h. absurd (omega arith)) c.in_err-left.ensures.lookup.0 in
    rw c.from_residual.ensures (sym (listed-over a.entries.now a.at a.at a.copy past))

pub returns-then-k-here : goal.returns-then-k-here
returns-then-k-here c =
    let a = c.args in let l = c.loop-i in let s = c.in_ok-left.left.now in
    let e : s ≡ drop a.at a.entries.now = c.in_ok-left.ensures.lookup.0.2 ∙ between_to_end a.entries.now a.at _ (search rules) in
    rw (← e) (sym (l.invariant ∙ listed-found s a.at l.i l.k (search rules) (search rules)))

pub loop-i-preserved : goal.loop-i-preserved
loop-i-preserved c =
    let l = c.loop-i in
    l.invariant ∙ listed-turn c.in_ok-left.left.now c.args.at l.i l.k (search rules) (search rules)

pub returns : goal.returns
returns c =
    let a = c.args in let l = c.loop-i in let s = c.in_ok-left.left.now in
    let e : s ≡ drop a.at a.entries.now = c.in_ok-left.ensures.lookup.0.2 ∙ between_to_end a.entries.now a.at _ (search rules) in
    rw (← e) (sym (l.invariant ∙ listed-over s (a.at + l.i) l.i l.k (search rules)))
