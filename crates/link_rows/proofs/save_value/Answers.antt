-- `link_rows::save_value` meets its contract. Two words are set.
-- Assumes nothing.
use Rattle.link_rows.proofs.Laws.{turned-value, valued-count}
use Rattle.link_rows.proofs.save_value.Goals as goal

pub returns : goal.returns
returns c =
    let w = c.args.live.now in
    (λ p. turned-value w p c.args.value c.requires.0 c.requires.1, valued-count w 1 c.args.value c.requires.0)
