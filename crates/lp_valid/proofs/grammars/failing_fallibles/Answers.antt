use Rattle.std.proofs.Common.{subst}
use Rattle.lp_valid.specs.ActionRules.{kind_may_fail}
use Rattle.lp_valid.specs.Places.{EachPasses, IsFirstFailing}
use Rattle.lp_valid.proofs.FirstFailing.{first_from_position}
use Rattle.lp_valid.proofs.grammars.failing_fallibles.Goals as goal

pub returns : goal.returns
returns c =
    let actions = c.as_slice.result.now in
    subst (λ xs. IsFirstFailing (EachPasses (λ a. kind_may_fail xs a.fallible a.kind) xs) c.failing_fallible.result) c.as_slice.ensures
    (first_from_position (λ a. kind_may_fail actions a.fallible a.kind) actions c.failing_fallible.result c.failing_fallible.ensures)
