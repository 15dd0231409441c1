-- Headers of functions.
use Rattle.std.proofs.Common.{◌≡◌, ℕ, true, List, [], ◌∷◌, ◌++◌, length, codes, nat_eq, refl, sym, subst}
use Rattle.std.specs.Cmp.Lexicographic.{pointwise}
use Rattle.lp_form.specs.Classes.{members_of}
use Rattle.lp_form.specs.Templates.{steps_of, holes_of}
use Rattle.lp_form.specs.declared.class.Class.{Class}
use Rattle.lp_form.specs.declared.class.Class.TheVariants as class
use Rattle.lp_form.specs.declared.part.Part.TheVariants as part
use Rattle.lp_form.specs.declared.template.Step.{Step}
use Rattle.lp_form.specs.declared.template.Step.TheVariants as step
use Rattle.lp_build.specs.Built.{text_rows}
use Rattle.lp_build.specs.Functions.{clause_lines, name_holes, name_part, result_line}
use Rattle.lp_build.specs.declared.functions.FunctionName.{FunctionName}
use Rattle.lp_build.specs.declared.functions.FunctionName.TheVariants as name
use Rattle.lp_table.specs.Headers.{header_lines}
use Rattle.lp_program.specs.Reads.{hole_count}
use Rattle.lp_emitted.proofs.Sharing.{class_steps}
use Rattle.lp_emitted.proofs.Rows.{Told, Takes, beside, either, leaf_one, may_stand, optional_none, optional_one, over_one, text_many}

result_one : {T : Told} (answer : List ℕ) → Takes T (step.One class.ResultLine ∷ []) (result_line answer)
unfolding steps_of holes_of members_of
result_one answer = either (pointwise nat_eq answer (codes "()")) (leaf_one class.ResultLine part.ResultUnit {holes = []} refl) (leaf_one class.ResultLine part.ResultType {holes = answer ∷ []} refl)

clauses_optional : {T : Told} (clauses : List (List ℕ)) → Takes T (step.Optional class.Clauses ∷ []) (clause_lines clauses)
unfolding steps_of holes_of members_of
clauses_optional [] = optional_none class.Clauses
clauses_optional (c ∷ cs) = optional_one (over_one class.Clauses part.Clauses {holes = []} {below = text_rows part.ClauseRow (c ∷ cs)} refl refl (text_many class.ClauseRow part.ClauseRow refl (c ∷ cs)))

-- what stands below a header
abbrev header_steps : List Step
header_steps = step.Many class.TypeRow ∷ step.Many class.ParameterRow ∷ step.One class.ResultLine ∷ step.Optional class.Clauses ∷ []

header_below : {T : Told} (generics parameters : List (List ℕ)) (answer : List ℕ) (clauses : List (List ℕ)) →
    Takes T header_steps (((text_rows part.TypeRow generics ++ text_rows part.ParameterRow parameters) ++ result_line answer) ++ clause_lines clauses)
unfolding steps_of holes_of members_of
header_below generics parameters answer clauses =
    beside (beside (beside (text_many class.TypeRow part.TypeRow refl generics) (text_many class.ParameterRow part.ParameterRow refl parameters)) (result_one answer)) (clauses_optional clauses)

named_steps : (n : FunctionName) → class_steps (steps_of (name_part n)) ≡ header_steps
unfolding steps_of
named_steps (name.Parse visibility) = refl
named_steps _ = refl

named_holes : (n : FunctionName) → length (name_holes n) ≡ hole_count (name_part n)
unfolding steps_of holes_of
named_holes (name.Parse visibility) = refl
named_holes _ = refl

pub header_one : {T : Told} (class : Class) (n : FunctionName) (generics parameters : List (List ℕ)) (answer : List ℕ) (clauses : List (List ℕ)) → may_stand class (name_part n) ≡ true →
    Takes T (step.One class ∷ []) (header_lines n generics parameters answer clauses)
unfolding header_lines
header_one {T} class n generics parameters answer clauses stands =
    over_one class (name_part n) {holes = name_holes n} stands (named_holes n)
    (subst (λ ss. Takes T ss (((text_rows part.TypeRow generics ++ text_rows part.ParameterRow parameters) ++ result_line answer) ++ clause_lines clauses)) (sym (named_steps n)) (header_below generics parameters answer clauses))
