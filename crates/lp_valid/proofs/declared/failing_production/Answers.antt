use Rattle.std.proofs.Common.{◌≡◌, ◌∙◌, ap, sym, map, subst}
use Rattle.std.specs.Map.Iter.{deref_pair}
use Rattle.lp_repr.specs.Numbering.{productions_of}
use Rattle.lp_valid.specs.Members.{holds}
use Rattle.lp_valid.specs.Places.{EachPasses, IsFirstFailing, IsNewBy}
use Rattle.lp_valid.specs.SymbolRules.{production_is_known_by, placed_of, has_terminal, same_production, ProductionIsKnown}
use Rattle.lp_valid.proofs.FirstFailing.{failing_image, first_of_both}
use Rattle.lp_valid.proofs.declared.failing_production.Goals as goal

pub returns : goal.returns
returns c =
    let g = c.args.grammar.now in
    let same : holds c.args.terminals.now ≡ has_terminal g = λ i t. c.requires.these t i in
    let known = EachPasses (production_is_known_by g (has_terminal g)) in
    let unknown =
    subst (λ es. IsFirstFailing (known es) c.first_unknown-unknown.result) (ap (map deref_pair) c.deref.ensures.value ∙ c.in_ok-placed.ensures)
    (failing_image deref_pair (production_is_known_by g (has_terminal g)) c.deref.result.now c.first_unknown-unknown.result (subst (λ test. IsFirstFailing (EachPasses (λ e. production_is_known_by g test (deref_pair e)) c.deref.result.now) c.first_unknown-unknown.result) same c.first_unknown-unknown.ensures)) in
    let repeat = subst (λ ps. IsFirstFailing (IsNewBy same_production ps) c.in_ok-repeat.repeat) c.requires.all c.in_ok-repeat.ensures in
    subst (IsFirstFailing (ProductionIsKnown g)) (sym c.least.ensures) (first_of_both (known (placed_of g)) (IsNewBy same_production (productions_of g)) c.first_unknown-unknown.result c.in_ok-repeat.repeat unknown repeat)
