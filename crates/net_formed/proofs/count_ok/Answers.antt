-- Each arm knows the kind. On kind 2 the upper end needs no test, since a count has 16 bits and the room holds all that they can say.
-- Assumes nothing.
use mathlib.Core.Bool.{and-true}
use mathlib.Core.Logic.{⊎_elim}
use mathlib.Core.Path.{sym}
use borrow.Author.Tests.{le-leb}
use borrow.Author.Rules.{rules}
use Rattle.rules.specs.Outcome.{base}
use Rattle.rules.specs.WellFormed.{count_ok}
use Rattle.net_formed.proofs.count_ok.Goals as goal

pub returns-in-Ordered : goal.returns-in-Ordered
unfolding count_ok
returns-in-Ordered c = ⊎_elim (λ e. rw e) (λ e. rw e) c.in-Ordered.is

pub returns-in-UnorderedNonDuplicating : goal.returns-in-UnorderedNonDuplicating
unfolding count_ok
returns-in-UnorderedNonDuplicating c = rw (c.in-UnorderedNonDuplicating.is, le-leb c.args.count base.room.copies (search rules)) (sym (and-true _))
