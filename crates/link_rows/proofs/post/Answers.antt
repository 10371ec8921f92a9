-- `link_rows::post` meets its contract. Two words are set and one record is put at the place of the count.
-- Assumes nothing.
use Rattle.link_rows.proofs.Laws.{turned-post, posted-count}
use Rattle.link_rows.proofs.post.Goals as goal

pub returns : goal.returns
returns c =
    let w = c.args.live.now in
    (turned-post w c.args.pend.now c.args.dst c.args.payload c.requires.0 c.requires.1 c.requires.3 c.requires.4, posted-count w _ _ c.requires.0)
