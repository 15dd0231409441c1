use Rattle.std.proofs.Common.{◌∙◌, length, sym, ap, subst, Some, None, IfOk}
use Rattle.std.specs.Map.Iter.{deref}
use Rattle.std.proofs.lemmas.List.{length-map}
use Rattle.lp_repr.specs.Numbering.{productions_of}
use Rattle.lp_repr.specs.declared.repr.Production.{Production}
use Rattle.lp_valid.specs.Places.{EachPasses, Then, IsFirstFailing}
use Rattle.lp_valid.specs.ActionRules.{takes, kind_has_counts}
use Rattle.lp_valid.proofs.FirstFailing.{first_from_position, first_of_images, fails_within, first_of_two, after_those}
use Rattle.lp_valid.proofs.grammars.failing_counts.Goals as goal

pub returns-in-Some : goal.returns-in-Some
returns-in-Some c =
    let xs = c.as_slice-actions.result.now in
    let ps = productions_of c.args.grammar.now in
    let test = λ (p : Production). takes xs p.action (length p.symbols) in
    let first : IsFirstFailing (EachPasses test ps) (Some c.in-Some.place) =
    subst (λ qs. IsFirstFailing (EachPasses test qs) (Some c.in-Some.place)) c.requires (first_of_images deref test c.args.productions.now (Some c.in-Some.place) c.in-Some.ensures) in
    subst (λ ys. IsFirstFailing (Then (length ps) (EachPasses (λ p. takes ys p.action (length p.symbols)) ps) (EachPasses (λ a. kind_has_counts ys a.kind) ys)) (Some c.in-Some.place)) c.as_slice-actions.ensures
    (first_of_two (length ps) (EachPasses test ps) (EachPasses (λ a. kind_has_counts xs a.kind) xs) c.in-Some.place (fails_within test ps c.in-Some.place first.0) first)

pub returns : goal.returns
returns c =
    let xs = c.as_slice-actions.result.now in
    let ps = productions_of c.args.grammar.now in
    let test = λ (p : Production). takes xs p.action (length p.symbols) in
    subst (λ ys. IfOk c.after.result (IsFirstFailing (Then (length ps) (EachPasses (λ p. takes ys p.action (length p.symbols)) ps) (EachPasses (λ a. kind_has_counts ys a.kind) ys)))) c.as_slice-actions.ensures
    (after_those (length c.args.productions.now) (length ps) (EachPasses test ps) (EachPasses (λ a. kind_has_counts xs a.kind) xs) c.failing_action_count.result c.after.result
    (sym (length-map c.args.productions.now deref) ∙ ap length c.requires)
    (subst (λ qs. IsFirstFailing (EachPasses test qs) None) c.requires (first_of_images deref test c.args.productions.now None (sym c.in_default.is ∙ c.failing_production_count.ensures)))
    (first_from_position (λ a. kind_has_counts xs a.kind) xs c.failing_action_count.result c.failing_action_count.ensures)
    c.after.ensures)
