use Rattle.std.proofs.Common.{◌∙◌, ap, map}
use Rattle.std.specs.BTreeMap.{values}
use Rattle.std.specs.Map.Iter.{deref}
use Rattle.lp_repr.specs.Shown.{pattern_text}
use Rattle.lp_repr.specs.declared.repr.TokenPattern.{TokenPattern}
use Rattle.lp_valid.specs.PrefixRules.{lacks, UsesLack}
use Rattle.lp_valid.proofs.FirstFailing.{failing_image, then_images}
use Rattle.lp_valid.proofs.apart.failing_patterns.Goals as goal

pub returns : goal.returns
returns c =
    let g = c.args.grammar.now in
    let test = λ (p : TokenPattern). lacks g.prefix (pattern_text p) in
    then_images deref test c.as_slice-patterns.result.now (values g.conversions) (UsesLack g) c.in_ok-first.first c.in_ok-rest.rest c.then.result (ap (map deref) c.as_slice-patterns.ensures.value ∙ c.in_ok-patterns.ensures)
    (failing_image deref test c.as_slice-patterns.result.now c.in_ok-first.first c.in_ok-first.ensures) c.in_ok-rest.ensures c.then.ensures
