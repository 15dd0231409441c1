use Rattle.std.proofs.Common.{◌≡◌, ℕ, List, IfOk, ap, subst, ◌∙◌}
use Rattle.lp_table.specs.MachineLines.{simulated_answer, simulated_over, simulated_type}
use Rattle.lp_table.proofs.machine.simulated_answer.Goals as goal

pub returns : goal.returns
unfolding simulated_answer
returns c =
    let prefix = c.args.shared.now.grammar.now.prefix in
    subst (λ (l : List ℕ). IfOk c.simulated_over.result (λ p. p ≡ l))
    (ap (λ (p : List ℕ). simulated_over p c.as_str-path.result.now) c.as_str-prefix.ensures
    ∙ ap (simulated_over prefix)
    (c.as_str-path.ensures.value ∙ (c.in_ok-simulated.ensures ∙ ap simulated_type (c.as_str-text.ensures.value ∙ c.in_ok-name.ensures))))
    c.simulated_over.ensures
