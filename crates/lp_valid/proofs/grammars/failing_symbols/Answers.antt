use Rattle.std.proofs.Common.{◌∙◌, length, sym, ap, subst}
use Rattle.std.specs.Map.Iter.{deref}
use Rattle.std.proofs.lemmas.List.{length-map}
use Rattle.lp_repr.specs.Numbering.{productions_of}
use Rattle.lp_valid.specs.Places.{EachPasses, IsFirstFailing}
use Rattle.lp_valid.specs.SymbolRules.{ProductionIsKnown, action_is_known}
use Rattle.lp_valid.proofs.FirstFailing.{first_of_two, after_those}
use Rattle.lp_valid.proofs.SymbolSets.{unknown_within}
use Rattle.lp_valid.proofs.grammars.failing_symbols.Goals as goal

pub returns-in-Some : goal.returns-in-Some
returns-in-Some c =
    let g = c.args.grammar.now in
    let first = subst (IsFirstFailing (ProductionIsKnown g)) c.in-Some.is c.in_ok-place.ensures in
    first_of_two (length (productions_of g)) (ProductionIsKnown g) (EachPasses (action_is_known g) g.action_fn_defns) c.in-Some.place (unknown_within g c.in-Some.place first.0) first

pub returns : goal.returns
returns c =
    let g = c.args.grammar.now in
    after_those (length c.args.productions.now) (length (productions_of g)) (ProductionIsKnown g) (EachPasses (action_is_known g) g.action_fn_defns) c.failing_action.result c.after.result
    (sym (length-map c.args.productions.now deref) ∙ ap length c.requires)
    (subst (IsFirstFailing (ProductionIsKnown g)) c.in_default.is c.in_ok-place.ensures)
    c.failing_action.ensures
    c.after.ensures
