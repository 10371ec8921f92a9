-- What the search leaves open of `ack_only`.
use mathlib.Core.Path.{refl, subst}
use mathlib.Core.List.{List}
use Rattle.rules.specs.Link.{Command}
use Rattle.sys_reacts.specs.declared.First.TheVariants.{Message}
use Rattle.sys_reacts.specs.Views.{Safe}
use Rattle.link_tables.proofs.Told.{zero-laid}
use Rattle.sys_moves.proofs.Messages.{zero_number, zero-cmds}
use Rattle.sys_moves.proofs.ack_only.Goals as goal

pub react_row-requires : goal.react_row-requires
react_row-requires c = let a = c.args in (c.requires.0, zero-laid, zero_number _ a.e.src 0 refl, c.requires.1)

pub returns : goal.returns
returns c =
    let a = c.args in
    subst (λ (l : List Command). Safe a.kind a.e.dst (Message a.e a.number) l a.c.now a.used a.len a.timers c.react_row.result
    c.react_row.new.c) (zero-cmds _ a.e.src a.e a.number refl) c.react_row.ensures
