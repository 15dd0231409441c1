use Rattle.std.proofs.Common.{ap, subst, ◌∙◌}
use Rattle.lp_state_parts.specs.GotoLaw.{IsGotosOf}
use Rattle.lp_state_parts.specs.Gotos.{arms_of}
use Rattle.lp_state_parts.proofs.GotoAnswers.{faithful}
use Rattle.lp_state_parts.proofs.gotos.gotos_on.Goals as goal

pub returns-clause-faithful : goal.returns-clause-faithful
returns-clause-faithful c =
    faithful c.args.nonterminal c.args.states.now c.with_catch_all.result
    (subst (λ xs. IsGotosOf xs c.with_catch_all.result)
    (c.in_ok-arms.ensures ∙ ap arms_of (c.as_slice.ensures.value ∙ c.in_ok-column.ensures)) c.with_catch_all.ensures)
