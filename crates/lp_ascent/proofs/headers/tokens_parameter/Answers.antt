use Rattle.std.proofs.Common.{ℕ, List, ◌++◌, codes, ap, ◌∙◌}
use Rattle.lp_ascent.specs.StateLines.{tokens_parameter}
use Rattle.lp_ascent.proofs.headers.tokens_parameter.Goals as goal

pub returns : goal.returns
unfolding tokens_parameter
returns c =
    c.made.ensures
    ∙ (c.in_ok-format.ensures.ok ∙ ap (λ (p : List ℕ). p ++ (codes "tokens: &mut " ++ (p ++ codes "TOKENS"))) c.as_str-prefix.ensures)
