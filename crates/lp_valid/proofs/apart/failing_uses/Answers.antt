use Rattle.std.proofs.Common.{subst}
use Rattle.lp_valid.specs.Places.{EachPasses, IsFirstFailing}
use Rattle.lp_valid.specs.PrefixRules.{lacks, AttributesLack}
use Rattle.lp_valid.proofs.FirstFailing.{first_from_position, then_slice}
use Rattle.lp_valid.proofs.apart.failing_uses.Goals as goal

pub returns : goal.returns
returns c =
    let g = c.args.grammar.now in
    let test = lacks g.prefix in
    then_slice test c.as_slice-uses.result.now g.uses (AttributesLack g) c.first_text-first.result c.first_text-rest.result c.then.result c.as_slice-uses.ensures
    (first_from_position test c.as_slice-uses.result.now c.first_text-first.result c.first_text-first.ensures)
    (subst (λ texts. IsFirstFailing (EachPasses test texts) c.first_text-rest.result) c.as_slice-attributes.ensures (first_from_position test c.as_slice-attributes.result.now c.first_text-rest.result c.first_text-rest.ensures))
    c.then.ensures
