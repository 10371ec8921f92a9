-- The line is measured first, and is written only where it fits.
use Rattle.replay_script.proofs.Laws.{told-after, told_none}
use mathlib.Core.Bool.{false≢true}
use lib.Dec.{lit≤}
use Rattle.replay_script.proofs.put_bad.Goals as goal

pub bad_line-size-requires : goal.bad_line-size-requires
bad_line-size-requires c = (λ w. absurd (false≢true w), lit≤ tt)

pub returns-then-size-out : goal.returns-then-size-out
returns-then-size-out c =
    let e = c.bad_line.ensures in
    let f = c.bad_line-size.ensures in
    told-after (record { next = f.next; bytes = f.bytes }) c.if-size-out.true (record { next = e.next; bytes = e.bytes })

pub returns : goal.returns
returns c =
    let e = c.bad_line-size.ensures in
    told_none (record { next = e.next; bytes = e.bytes }) c.if-size-out.false
