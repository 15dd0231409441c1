use Rattle.std.proofs.Common.{◌∙◌, ap, map}
use Rattle.std.specs.Map.Iter.{deref}
use Rattle.lp_valid.specs.PrefixRules.{is_clear, types_of, ReturnTypesAreClear}
use Rattle.lp_valid.proofs.FirstFailing.{first_of_images, then_images}
use Rattle.lp_valid.proofs.apart.failing_types.Goals as goal

pub returns : goal.returns
returns c =
    let g = c.args.grammar.now in
    let test = is_clear g.prefix g.types in
    then_images deref test c.as_slice-types.result.now (types_of g.types) (ReturnTypesAreClear g) c.first_type-first.result c.in_ok-rest.rest c.then.result (ap (map deref) c.as_slice-types.ensures.value ∙ c.in_ok-types.ensures)
    (first_of_images deref test c.as_slice-types.result.now c.first_type-first.result c.first_type-first.ensures) c.in_ok-rest.ensures c.then.ensures
