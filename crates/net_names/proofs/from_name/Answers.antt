-- The first kind whose name it is, or none: the rules compare with the three names in the same order.
-- Assumes nothing.
use Rattle.std.proofs.Common.{rules, ap, ◌∙◌, Option}
use Rattle.std.proofs.lemmas.Iterator.{YieldsList-from_slice}
use Rattle.std.proofs.lemmas.Iterator.Search.{find_from_yields_List}
use Rattle.std.specs.Option.{ok_or}
use borrow.Author.Tests.{tests}
use Rattle.types.specs.declared.Kind.{Kind}
use Rattle.net_names.specs.declared.UnknownName.{UnknownName}
use Rattle.net_names.specs.declared.TheConstants.{KINDS}
use Rattle.net_names.proofs.Places.{is_name, first_named}
use Rattle.net_names.proofs.Theorems.{named-all}
use Rattle.net_names.proofs.from_name.Goals as goal

pub returns : goal.returns
returns c =
    let name = c.args.name.now in
    let found = find_from_yields_List (is_name name) _ _ c.find.result c.find.ensures.ran (YieldsList-from_slice KINDS cc)
    (λ x b q k. search (rules, tests)) in
    let told = named-all name
    (c.ok_or.ensures.value ∙ ap (λ (o : Option Kind). ok_or {E = UnknownName} o (record {})) (c.copied.ensures ∙ found) ∙ first_named name) in
    record { value = told.0; says = told.1 }
