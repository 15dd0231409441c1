use Rattle.std.proofs.Common.{◌≡◌, ℕ, List, IfOk, ap, subst, ◌∙◌}
use Rattle.lp_table.specs.Pieces.{vec_of}
use Rattle.lp_table.specs.ReductionLines.{stack_parameter, state_list}
use Rattle.lp_ascent.proofs.headers.stack_parameter.Goals as goal

pub returns : goal.returns
unfolding stack_parameter
returns c =
    let prefix = c.args.shared.now.grammar.now.prefix in
    subst (λ (l : List ℕ). IfOk c.state_list.result (λ p. p ≡ l))
    (ap (λ (p : List ℕ). state_list p c.as_str-list.result.now) c.as_str-prefix.ensures
    ∙ ap (state_list prefix) (c.as_str-list.ensures.value ∙ (c.in_ok-states.ensures ∙ ap vec_of c.state_name-ty.ensures)))
    c.state_list.ensures
