use Rattle.std.proofs.Common.{◌≡◌, ◌∙◌, sym, subst, length, Some, None, IsTrue, true, false, add-zero}
use Rattle.lp_valid.specs.NameRules.{kind_has_names, has_input}
use Rattle.lp_valid.specs.Places.{EachPasses, Then, IsFirstFailing}
use Rattle.lp_valid.proofs.FirstFailing.{first_from_position, failing_in_list, second_of_two, fails_at_once}
use Rattle.lp_valid.proofs.grammars.failing_action_names.Goals as goal

pub returns-in-Some : goal.returns-in-Some
returns-in-Some c =
    let Input = IsTrue (has_input c.args.grammar.now) in
    subst (λ xs. IsFirstFailing (Then (length xs) (EachPasses (λ a. kind_has_names a.kind) xs) (λ place. Input)) (Some c.in-Some.place)) c.as_slice-actions.ensures
    (failing_in_list (λ a. kind_has_names a.kind) c.as_slice-actions.result.now (λ place. Input) c.in-Some.place c.in-Some.ensures)

pub returns-then-has_input : goal.returns-then-has_input
returns-then-has_input c =
    let Input = IsTrue (has_input c.args.grammar.now) in
    let xs = c.as_slice-actions.result.now in
    subst (λ xs. IsFirstFailing (Then (length xs) (EachPasses (λ a. kind_has_names a.kind) xs) (λ place. Input)) None) c.as_slice-actions.ensures
    (second_of_two (length xs) (EachPasses (λ a. kind_has_names a.kind) xs) (λ place. Input) None
    (first_from_position (λ a. kind_has_names a.kind) xs None (sym c.in_default.is ∙ c.failing_argument_name.ensures))
    (λ place. sym c.has_input.ensures ∙ c.if-has_input.true))

pub returns : goal.returns
returns c =
    let Input = IsTrue (has_input c.args.grammar.now) in
    let xs = c.as_slice-actions.result.now in
    let missing : ¬ Input = λ has. let no_way : true ≡ false = sym has ∙ (sym c.has_input.ensures ∙ c.if-has_input.false) in cc in
    subst (λ ys. IsFirstFailing (Then (length ys) (EachPasses (λ a. kind_has_names a.kind) ys) (λ place. Input)) (Some (length xs))) c.as_slice-actions.ensures
    (subst (λ k. IsFirstFailing (Then (length xs) (EachPasses (λ a. kind_has_names a.kind) xs) (λ place. Input)) (Some k)) (add-zero (length xs))
    (second_of_two (length xs) (EachPasses (λ a. kind_has_names a.kind) xs) (λ place. Input) (Some 0)
    (first_from_position (λ a. kind_has_names a.kind) xs None (sym c.in_default.is ∙ c.failing_argument_name.ensures))
    (fails_at_once Input missing)))
