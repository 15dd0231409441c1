use Rattle.lp_repr.specs.declared.repr.Parameter.{Parameter}
use Rattle.lp_valid.specs.PrefixRules.{lacks, TypesAreClear}
use Rattle.lp_valid.proofs.FirstFailing.{first_from_position, then_slice}
use Rattle.lp_valid.proofs.apart.failing_parameters.Goals as goal

pub returns : goal.returns
returns c =
    let g = c.args.grammar.now in
    let test = λ (p : Parameter). lacks g.prefix p.name in
    then_slice test c.as_slice-parameters.result.now g.parameters (TypesAreClear g) c.first_parameter-first.result c.in_ok-rest.rest c.then.result c.as_slice-parameters.ensures
    (first_from_position test c.as_slice-parameters.result.now c.first_parameter-first.result c.first_parameter-first.ensures) c.in_ok-rest.ensures c.then.ensures
