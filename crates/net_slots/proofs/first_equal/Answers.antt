-- The walk begins where the flow does, and ends with it.
-- Assumes nothing.
use Rattle.std.proofs.Common.{◌≡◌, ◌+◌, length, ap, ◌∙◌, MatchOption, rules}
use Rattle.std.specs.List.{position, take_while}
use Rattle.std.proofs.lemmas.List.{take_rest}
use Rattle.types.specs.Order.{is_equal}
use Rattle.net_cells.specs.Cells.{cmp_cell}
use Rattle.net_slots.specs.Search.{before_flow, up_to_flow}
use Rattle.net_slots.proofs.Laws.{flows, flows-trans, flows-before, once, first-walked}
use Rattle.net_slots.proofs.first_equal.Goals as goal

pub returns : goal.returns
returns c =
    let l = c.args.cells.now in
    let k = c.args.k in
    let start = c.halve-start.result in
    let o = once flows flows-trans l c.requires (before_flow k) (flows-before k) in
    let s = c.halve-start.ensures.first (before_flow k) (λ x r e. search rules) o in
    let m : MatchOption c.first_in.result (c.map_or.result ≡ length l) (λ i. c.map_or.result ≡ start + i) = search rules in
    let r = c.first_in.ensures ∙ ap (λ w. position (λ x. is_equal (cmp_cell x k)) (take_while (up_to_flow k) w)) (take_rest l start) in
    first-walked l k c.requires start s c.first_in.result r c.map_or.result m
