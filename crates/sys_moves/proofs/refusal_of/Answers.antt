-- What the search leaves open of `refusal_of`.
use mathlib.Core.Path.{ap, ◌∙◌}
use Prim.Native.Nat.{ℕ}
use lib.ListN.{get_or}
use Rattle.types.specs.Capacities.{most_pending}
use Rattle.answers.specs.Answers.{answer_of}
use Rattle.sys_reacts.specs.Views.{refusal_of}
use Rattle.sys_moves.proofs.refusal_of.Goals as goal

pub returns : goal.returns
returns c = λ source value.
    let w = c.args.live.now in
    let x = c.refusal.ensures in
    record {
      told = x.0 ∙ ap (λ (k : ℕ). answer_of (refusal_of (get_or w 0 0) (get_or w 1 0) most_pending k)) (c.requires.0.sends source value);
      most = x.1;
    }
