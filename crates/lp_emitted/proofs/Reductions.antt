-- Reductions of table-driven code.
use Rattle.std.proofs.Common.{ℕ, ◌+◌, ◌==◌, nat_lt, Bool, true, false, List, [], ◌∷◌, ◌++◌, length, map, decimal, Option, Some, None, refl}
use Rattle.lp_form.specs.Classes.{members_of}
use Rattle.lp_form.specs.Templates.{steps_of, holes_of}
use Rattle.lp_form.specs.declared.class.Class.TheVariants as class
use Rattle.lp_form.specs.declared.part.Part.TheVariants as part
use Rattle.lp_form.specs.declared.template.Step.TheVariants as step
use Rattle.lp_repr.specs.Numbering.{productions_of}
use Rattle.lp_repr.specs.Shown.{parameter_text}
use Rattle.lp_repr.specs.declared.lr1.Lr1State.{Lr1State}
use Rattle.lp_repr.specs.declared.repr.Grammar.{Grammar}
use Rattle.lp_repr.specs.declared.repr.Production.{Production}
use Rattle.lp_tree.specs.ProgramTree.{leaf}
use Rattle.lp_build.specs.Reductions.{assert_lines, call_of, outcome_of, pop_lines, span_of}
use Rattle.lp_build.specs.declared.functions.FunctionName.TheVariants as name
use Rattle.lp_build.specs.declared.reductions.Produced.{Produced}
use Rattle.lp_parts.specs.Texts.{generic_names_text, symbol_clauses_text, symbol_parameters}
use Rattle.lp_table.specs.Headers.{clauses_of, declared_texts, generics_of}
use Rattle.lp_table.specs.MachineLines.{phantom_parameter}
use Rattle.lp_table.specs.Pieces.{unless_empty, variant_types_shown}
use Rattle.lp_table.specs.ReductionLines.{action_arguments, action_parameter, arms_from, functions_from, is_called, lookahead_parameter, own_function, own_header, places_type, pop_function, pop_functions, pops_from, produced_of, reduce_answer, reduce_function, reduce_functions, reduce_header, reduction_arm, reduction_body, stack_parameter, symbol_variants, symbols_parameter}
use Rattle.lp_table.specs.Starts.{Start, is_fallible}
use Rattle.lp_emitted.proofs.Headers.{header_one}
use Rattle.lp_emitted.proofs.Machines.{where_optional}
use Rattle.lp_emitted.proofs.Rows.{Told, Takes, beside, either, many_more, many_none, many_one, one_leaf, optional_none, optional_one, over_one, text_many}

pub assert_optional : {T : Told} (n : ℕ) → Takes T (step.Optional class.AssertLine ∷ []) (assert_lines n)
unfolding steps_of holes_of members_of
assert_optional n = either (nat_lt 1 n) (optional_one (one_leaf class.AssertLine part.AssertLine _ _ refl)) (optional_none class.AssertLine)

pops_many : {T : Told} (k : ℕ) (vs : List (List ℕ)) → Takes T (step.Many class.PopLine ∷ []) (pop_lines k vs)
unfolding steps_of holes_of members_of
pops_many k [] = many_none class.PopLine
pops_many k (v ∷ vs) = many_more (pops_many (k + 1) vs) (many_one (one_leaf class.PopLine part.PopLine _ _ refl))

span_one : {T : Told} (n : ℕ) → Takes T (step.One class.SpanLines ∷ []) (span_of n)
unfolding steps_of holes_of members_of
span_one n = either (n == 0) (one_leaf class.SpanLines part.SpanEmpty _ _ refl) (one_leaf class.SpanLines part.SpanPopped _ _ refl)

call_one : {T : Told} (fallible : Bool) (action : ℕ) (types arguments : List ℕ) → Takes T (step.One class.CallLines ∷ []) (call_of fallible action types arguments)
unfolding steps_of holes_of members_of
call_one true action types arguments = one_leaf class.CallLines part.CallFallible _ _ refl
call_one false action types arguments = one_leaf class.CallLines part.CallPlain _ _ refl

outcome_one : {T : Told} (n : ℕ) (produced : Option Produced) → Takes T (step.One class.OutcomeLines ∷ []) (outcome_of n produced)
unfolding steps_of holes_of members_of
outcome_one n None = one_leaf class.OutcomeLines part.OutcomeStart _ _ refl
outcome_one n (Some p) = one_leaf class.OutcomeLines part.OutcomePush _ _ refl

body_one : {T : Told} (g : Grammar) (s : Start) (p : Production) → Takes T (step.One class.ReduceBody ∷ []) (reduction_body g s p)
unfolding steps_of holes_of members_of reduction_body
body_one g s p = over_one class.ReduceBody part.ReduceBody {holes = []} refl refl
    (beside (beside (beside (beside (assert_optional (length (symbol_variants g p))) (pops_many 0 (symbol_variants g p))) (span_one (length (symbol_variants g p))))
    (call_one (is_fallible g p) p.action (generic_names_text g) (action_arguments g (length p.symbols))))
    (outcome_one (length (symbol_variants g p)) (produced_of g s p)))

arm_one : {T : Told} (g : Grammar) (s : Start) (n : ℕ) (p : Production) → Takes T (step.One class.ReduceRow ∷ []) (reduction_arm g s n p)
unfolding steps_of holes_of members_of reduction_arm
arm_one g s n p = either (is_called g s p) (one_leaf class.ReduceRow part.ReduceCallArm _ _ refl) (over_one class.ReduceRow part.ReduceBodyArm {holes = decimal n ∷ []} refl refl (body_one g s p))

arms_many : {T : Told} (g : Grammar) (s : Start) (n : ℕ) (ps : List Production) → Takes T (step.Many class.ReduceRow ∷ []) (arms_from g s n ps)
arms_many g s n [] = many_none class.ReduceRow
arms_many g s n (p ∷ ps) = many_more (many_one (arm_one g s n p)) (arms_many g s (n + 1) ps)

reduce_header_one : {T : Told} (g : Grammar) (states : List Lr1State) (s : Start) → Takes T (step.One class.HeaderReduce ∷ []) (reduce_header g states s)
unfolding steps_of members_of reduce_header
reduce_header_one g states s =
    header_one class.HeaderReduce name.Reduce (generics_of g ++ []) (declared_texts g ++ (action_parameter g states ∷ lookahead_parameter g ∷ stack_parameter g states ∷ symbols_parameter g ∷ phantom_parameter g ∷ [])) (reduce_answer g s) (clauses_of g) refl

pub reduce_function_one : {T : Told} (g : Grammar) (states : List Lr1State) (s : Start) → Takes T (step.One class.Reduce ∷ []) (reduce_function g states s)
unfolding steps_of holes_of members_of reduce_function
reduce_function_one g states s = over_one class.Reduce part.Reduce {holes = []} refl refl (beside (reduce_header_one g states s) (arms_many g s 0 (productions_of g)))

pub mismatch_one : {T : Told} → Takes T (step.One class.Mismatch ∷ []) (leaf part.Mismatch [])
unfolding steps_of holes_of members_of
mismatch_one = one_leaf class.Mismatch part.Mismatch _ _ refl

pop_one : {T : Told} (g : Grammar) (n : ℕ) (ty : List ℕ) → Takes T (step.One class.Pop ∷ []) (pop_function g n ty)
unfolding steps_of holes_of members_of
pop_one g n ty = over_one class.Pop part.Pop refl refl (beside (text_many class.PopRow part.PopRow refl (map parameter_text (symbol_parameters g))) (where_optional (unless_empty (symbol_clauses_text g))))

pops_all : {T : Told} (g : Grammar) (n : ℕ) (types : List (List ℕ)) → Takes T (step.Many class.Pop ∷ []) (pops_from g n types)
pops_all g n [] = many_none class.Pop
pops_all g n (ty ∷ types) = many_more (many_one (pop_one g n ty)) (pops_all g (n + 1) types)

pub pop_functions_many : {T : Told} (g : Grammar) → Takes T (step.Many class.Pop ∷ []) (pop_functions g)
unfolding pop_functions
pop_functions_many g = pops_all g 0 (variant_types_shown g)

own_header_one : {T : Told} (g : Grammar) (n : ℕ) → Takes T (step.One class.HeaderReduceFn ∷ []) (own_header g n)
unfolding steps_of members_of own_header
own_header_one g n = header_one class.HeaderReduceFn (name.ReduceProduction n) (generics_of g ++ []) (declared_texts g ++ (lookahead_parameter g ∷ symbols_parameter g ∷ phantom_parameter g ∷ [])) places_type (clauses_of g) refl

own_one : {T : Told} (g : Grammar) (s : Start) (n : ℕ) (p : Production) → Takes T (step.One class.ReduceFn ∷ []) (own_function g s n p)
unfolding steps_of holes_of members_of
own_one g s n p = over_one class.ReduceFn part.ReduceFn {holes = []} refl refl (beside (own_header_one g n) (body_one g s p))

functions_many : {T : Told} (g : Grammar) (s : Start) (n : ℕ) (ps : List Production) → Takes T (step.Many class.ReduceFn ∷ []) (functions_from g s n ps)
functions_many g s n [] = many_none class.ReduceFn
functions_many g s n (p ∷ ps) = many_more (either (is_called g s p) (many_one (own_one g s n p)) (many_none class.ReduceFn)) (functions_many g s (n + 1) ps)

pub reduce_functions_many : {T : Told} (g : Grammar) (s : Start) → Takes T (step.Many class.ReduceFn ∷ []) (reduce_functions g s)
unfolding reduce_functions
reduce_functions_many g s = functions_many g s 0 (productions_of g)
