-- What the search leaves open of `pendings_of`.
use Rattle.std.proofs.Common.{rules, ap, ◌∙◌, map}
use Rattle.types.specs.Capacities.{most_pending}
use Rattle.types.specs.declared.Pending.{Pending}
use Rattle.link_durable.specs.Views.{filled_of}
use Rattle.link_rows.specs.Rows.{pending_in}
use Rattle.link_layout.proofs.pendings_of.Goals as goal

pub returns : goal.returns
unfolding pending_in
returns c =
    c.read_in.ensures pending_in (λ f g x y k. search rules)
    ∙ ap (λ (z : Pending). filled_of most_pending z (map pending_in c.args.rows.now)) c.pending_of-z.ensures
