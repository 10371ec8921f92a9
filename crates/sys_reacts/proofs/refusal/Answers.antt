-- What the search leaves open of `refusal`.
use native.Mathlib.Omega.{arith}
use Rattle.sys_reacts.proofs.Laws.{both-fit, numbers-out, places-out}
use borrow.Author.Rules.{rules}
use Rattle.sys_reacts.proofs.refusal.Goals as goal

pub returns-then-sends-numbers : goal.returns-then-sends-numbers
returns-then-sends-numbers c = let a = c.args in (both-fit a.next a.pending a.room a.sends (omega arith) (omega arith), search rules)

pub returns-then-numbers-places : goal.returns-then-numbers-places
returns-then-numbers-places c =
    let a = c.args in
    (numbers-out a.next a.pending a.room a.sends (omega arith) (omega arith), search rules)

pub returns-then-sends-places : goal.returns-then-sends-places
returns-then-sends-places c = let a = c.args in (both-fit a.next a.pending a.room a.sends (omega arith) (omega arith), search rules)

pub returns : goal.returns
returns c =
    let a = c.args in
    (places-out a.next a.pending a.room a.sends (omega arith) (omega arith), search rules)
