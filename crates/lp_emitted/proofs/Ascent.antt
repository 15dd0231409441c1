-- The functions of states of recursive ascent.
use Rattle.std.proofs.Common.{◌≡◌, ℕ, zero, suc, ◌+◌, ◌-◌, ◌==◌, not, nat_lt, Bool, true, false, List, [], ◌∷◌, ◌++◌, length, map, decimal, Option, Some, None, if◌then◌else◌, refl}
use Rattle.std.proofs.lemmas.Bool.{both_ways}
use Rattle.lp_form.specs.Classes.{members_of}
use Rattle.lp_form.specs.Templates.{steps_of, holes_of}
use Rattle.lp_form.specs.declared.class.Class.TheVariants as class
use Rattle.lp_form.specs.declared.part.Part.TheVariants as part
use Rattle.lp_form.specs.declared.template.Step.TheVariants as step
use Rattle.lp_repr.specs.Numbering.{nonterminals_of, productions_of}
use Rattle.lp_repr.specs.declared.lr1.Lr1State.{Lr1State}
use Rattle.lp_repr.specs.declared.lr1.Token.{Token}
use Rattle.lp_repr.specs.declared.repr.Grammar.{Grammar}
use Rattle.lp_repr.specs.declared.repr.Production.{Production}
use Rattle.lp_repr.specs.declared.repr.TokenPattern.{TokenPattern}
use Rattle.lp_tree.specs.ProgramTree.{Item, leaf}
use Rattle.lp_build.specs.Built.{over, text_rows}
use Rattle.lp_build.specs.Ascent.{ascent_span, check_lines, last_token, shift_holes, shift_part}
use Rattle.lp_build.specs.declared.ascent_reduce.AscentSpan.{AscentSpan}
use Rattle.lp_build.specs.declared.ascent_reduce.AscentSpan.TheVariants as span
use Rattle.lp_build.specs.declared.functions.FunctionName.TheVariants as name
use Rattle.lp_parts.specs.Texts.{generic_names_text}
use Rattle.lp_table.specs.Headers.{clauses_of, declared_texts, generics_of}
use Rattle.lp_table.specs.Pieces.{unless_empty}
use Rattle.lp_table.specs.Starts.{is_fallible}
use Rattle.lp_ascent.specs.Slots.{Layout, count_of, has_lookahead, is_cell, layout_at}
use Rattle.lp_ascent.specs.AnswerLines.{answer_clauses_text, answer_lines, answer_names, answer_row}
use Rattle.lp_ascent.specs.CallLines.{call_of, cells_from, taken_lines, with_symbol}
use Rattle.lp_ascent.specs.ShiftLines.{pattern_at, shift_if, shift_line, shift_lines, shifted_names, shifted_pattern}
use Rattle.lp_ascent.specs.ReduceLines.{arm_on, but_last, ends, first_popped, is_reduced, last_pattern, popped_arguments, popped_span, reduction_arm, reduction_line, reduction_lines, reduction_of, reductions_from, token_patterns}
use Rattle.lp_ascent.specs.GotoLines.{goes_on, goto_arm, goto_lines, gotos_of, named_gotos, optional_top}
use Rattle.lp_ascent.specs.StateLines.{downwards, error_lines, error_location, gotos_if, new_cells, state_answer, state_arms, state_header, state_lines, state_parameters, states_from, tokens_generic}
use Rattle.lp_emitted.proofs.Headers.{header_one}
use Rattle.lp_emitted.proofs.Machines.{where_optional}
use Rattle.lp_emitted.proofs.Rows.{Told, Takes, beside, either, either_when, many_flat, many_map, many_more, many_none, many_one, one_leaf, optional_if, optional_none, optional_one, over_one, some_more, text_many}

pub answer_lines_one : {T : Told} (g : Grammar) → Takes T (step.One class.ReturnEnum ∷ []) (answer_lines g)
unfolding steps_of holes_of members_of answer_lines
answer_lines_one g = over_one class.ReturnEnum part.ReturnEnum refl refl
    (beside (where_optional (unless_empty (answer_clauses_text g))) (many_map class.ReturnRow (answer_row g) (λ n. one_leaf class.ReturnRow part.ReturnRow _ _ refl) (nonterminals_of g)))

-- calls of other states
taken_many : {T : Told} (l : Layout) (first : ℕ) → Takes T (step.Many class.TakeLine ∷ []) (taken_lines l first)
unfolding steps_of holes_of members_of
taken_many l first = text_many class.TakeLine part.TakeLine refl (map decimal (cells_from l first))

return_optional : {T : Told} (asked : Bool) → Takes T (step.Optional class.ReturnLine ∷ []) (if asked then leaf part.ReturnLine [] else [])
unfolding steps_of holes_of members_of
return_optional asked = optional_if class.ReturnLine part.ReturnLine asked refl

call_one : {T : Told} (g : Grammar) (ls : List Layout) (l : Layout) (n : ℕ) (after_goto : Bool) → Takes T (step.One class.Transition ∷ []) (call_of g ls l n after_goto)
unfolding steps_of holes_of members_of call_of
call_one g ls l n after_goto = over_one class.Transition part.Transition refl refl
    (beside (taken_many l (with_symbol l - (layout_at ls n).fixed)) (return_optional (nat_lt 1 (layout_at ls n).fixed)))

-- shifts
shift_by : {T : Told} (pattern : List ℕ) (symbol : ℕ) (names : Option (List ℕ)) {below : List Item} → Takes T (step.One class.Transition ∷ []) below → Takes T (step.One class.ShiftArm ∷ []) (over (shift_part names) (shift_holes pattern symbol names) below)
unfolding steps_of holes_of members_of
shift_by pattern symbol None t = over_one class.ShiftArm part.ShiftWhole refl refl t
shift_by pattern symbol (Some names) t = over_one class.ShiftArm part.ShiftArm refl refl t

shift_many : {T : Told} (g : Grammar) (ls : List Layout) (l : Layout) (target : ℕ) (p : Option TokenPattern) → Takes T (step.Many class.ShiftArm ∷ []) (shift_if g ls l target p)
shift_many g ls l target None = many_none class.ShiftArm
shift_many g ls l target (Some p) = many_one (shift_by (shifted_pattern g.prefix p) (count_of l) (shifted_names g.prefix p) (call_one g ls l target false))

shifts_many : {T : Told} (g : Grammar) (ls : List Layout) (l : Layout) (shifts : List (ℕ × ℕ)) → Takes T (step.Many class.ShiftArm ∷ []) (shift_lines g ls l shifts)
unfolding shift_lines
shifts_many g ls l shifts = many_flat class.ShiftArm (shift_line g ls l) (λ shift. shift_many g ls l shift.1 (pattern_at g shift.0)) shifts

-- reductions
span_one : {T : Told} (s : AscentSpan) → Takes T (step.One class.AscentSpan ∷ []) (ascent_span s)
unfolding steps_of holes_of members_of
span_one (span.Symbols first last) = one_leaf class.AscentSpan part.AscentPopped _ _ refl
span_one (span.Fixed slot) = one_leaf class.AscentSpan part.AscentFixed _ _ refl
span_one (span.Optional slot) = one_leaf class.AscentSpan part.AscentOptional _ _ refl
span_one (span.Bottom location) = one_leaf class.AscentSpan part.AscentBottom _ _ refl

ascent_call_by : {T : Told} (fallible : Bool) (action types arguments : List ℕ) → Takes T (step.One class.AscentCall ∷ []) (leaf (if fallible then part.AscentCallFallible else part.AscentCall) (action ∷ types ∷ arguments ∷ []))
unfolding steps_of holes_of members_of
ascent_call_by true action types arguments = one_leaf class.AscentCall part.AscentCallFallible _ _ refl
ascent_call_by false action types arguments = one_leaf class.AscentCall part.AscentCall _ _ refl

reduction_one : {T : Told} (g : Grammar) (l : Layout) (p : Production) → Takes T (step.One class.ReduceLines ∷ []) (reduction_of g l p)
unfolding steps_of holes_of members_of reduction_of
reduction_one g l p = over_one class.ReduceLines part.ReduceLines refl refl
    (beside (beside (beside (taken_many l (first_popped l p)) (span_one (popped_span g l (length p.symbols))))
    (ascent_call_by (is_fallible g p) (decimal p.action) (generic_names_text g) (popped_arguments g (first_popped l p) (count_of l))))
    (return_optional (nat_lt 0 (length p.symbols))))

last_one : {T : Told} (last : Option (List ℕ)) → Takes T (step.One class.LastToken ∷ []) (last_token last)
unfolding steps_of holes_of members_of
last_one None = one_leaf class.LastToken part.LastEnd _ _ refl
last_one (Some pattern) = one_leaf class.LastToken part.LastToken _ _ refl

arm_by_tokens : {T : Told} (patterns : List (List ℕ)) (last : Option (List ℕ)) {below : List Item} → Takes T (step.One class.ReduceLines ∷ []) below → Takes T (step.One class.ReduceArm ∷ []) (arm_on patterns last below)
unfolding steps_of holes_of members_of
arm_by_tokens [] None t = over_one class.ReduceArm part.ReduceEnd {holes = []} refl refl t
arm_by_tokens [] (Some pattern) t = over_one class.ReduceArm part.ReduceToken refl refl t
arm_by_tokens (p ∷ ps) last t = over_one class.ReduceArm part.ReduceMany refl refl (beside (beside (text_many class.TokenRow part.TokenRow refl ps) (last_one last)) t)

arm_one : {T : Told} (g : Grammar) (l : Layout) (p : Production) (tokens : List Token) → Takes T (step.One class.ReduceArm ∷ []) (reduction_arm g l p tokens)
arm_one g l p tokens = arm_by_tokens (but_last (ends tokens) (token_patterns g tokens)) (last_pattern (ends tokens) (token_patterns g tokens)) (reduction_one g l p)

reductions_many : {T : Told} (g : Grammar) (l : Layout) (reductions : List (List Token × ℕ)) (n : ℕ) (ps : List Production) → Takes T (step.Many class.ReduceArm ∷ []) (reductions_from g l reductions n ps)
reductions_many g l reductions n [] = many_none class.ReduceArm
reductions_many g l reductions n (p ∷ ps) = many_more
    (many_flat class.ReduceArm (reduction_line g l n p) (λ reduction. either (is_reduced n reduction) (many_one (arm_one g l p reduction.0)) (many_none class.ReduceArm)) reductions)
    (reductions_many g l reductions (n + 1) ps)

all_reductions : {T : Told} (g : Grammar) (l : Layout) (reductions : List (List Token × ℕ)) → Takes T (step.Many class.ReduceArm ∷ []) (reduction_lines g l reductions)
unfolding reduction_lines
all_reductions g l reductions = reductions_many g l reductions 0 (productions_of g)

-- errors at the end of input
location_fixed : {T : Told} (slot : ℕ) → Takes T (step.One class.LocationLines ∷ []) (leaf part.LocationFixed (decimal slot ∷ []))
unfolding steps_of holes_of members_of
location_fixed slot = one_leaf class.LocationLines part.LocationFixed _ _ refl

location_default : {T : Told} → Takes T (step.One class.LocationLines ∷ []) (leaf part.LocationDefault [])
unfolding steps_of holes_of members_of
location_default = one_leaf class.LocationLines part.LocationDefault _ _ refl

location_chain : {T : Told} (slots : ℕ) → (slots == 0) ≡ false → Takes T (step.One class.LocationLines ∷ []) (over part.LocationChain [] (text_rows part.LocationRow (map decimal (downwards slots))))
unfolding steps_of holes_of members_of
location_chain zero h = absurd (both_ways true h refl)
location_chain (suc n) h = over_one class.LocationLines part.LocationChain {holes = []} refl refl
    (some_more {xs = leaf part.LocationRow (decimal n ∷ [])} (one_leaf class.LocationRow part.LocationRow _ _ refl) (text_many class.LocationRow part.LocationRow refl (map decimal (downwards n))))

location_one : {T : Told} (l : Layout) → Takes T (step.One class.LocationLines ∷ []) (error_location l)
location_one l = either_when (count_of l == 0)
    (λ none. location_default)
    (λ some. either (is_cell l (count_of l - 1)) (location_chain (count_of l) some) (location_fixed (count_of l - 1)))

error_one : {T : Told} (l : Layout) → Takes T (step.One class.ErrorArm ∷ []) (error_lines l)
unfolding steps_of holes_of members_of
error_one l = over_one class.ErrorArm part.ErrorArm {holes = []} refl refl (location_one l)

-- gotos
goto_many : {T : Told} (g : Grammar) (ls : List Layout) (l : Layout) (goto : List ℕ × ℕ) → Takes T (step.Many class.GotoArm ∷ []) (goto_arm g ls l goto)
unfolding steps_of holes_of members_of
goto_many g ls l goto = many_one (over_one class.GotoArm part.GotoArm refl refl (call_one g ls l goto.1 true))

check_optional : {T : Told} (top : Option ℕ) → Takes T (step.Optional class.EmptyCheck ∷ []) (check_lines top)
unfolding steps_of holes_of members_of
check_optional None = optional_none class.EmptyCheck
check_optional (Some slot) = optional_one (one_leaf class.EmptyCheck part.EmptyCheck _ _ refl)

gotos_one : {T : Told} (g : Grammar) (ls : List Layout) (l : Layout) (gotos : List (List ℕ × ℕ)) → Takes T (step.One class.GotoLoop ∷ []) (gotos_of g ls l gotos)
unfolding steps_of holes_of members_of
gotos_one g ls l [] = one_leaf class.GotoLoop part.GotoReturn _ _ refl
gotos_one g ls l (goto ∷ gotos) = over_one class.GotoLoop part.GotoLoop {holes = []} refl refl
    (beside (beside (check_optional (optional_top l)) (many_flat class.GotoArm (goto_arm g ls l) (goto_many g ls l) (goto ∷ gotos)))
    (optional_if class.GotoOther part.GotoOther (nat_lt (length (goto ∷ gotos)) (length (answer_names g))) refl))

goto_lines_one : {T : Told} (g : Grammar) (ls : List Layout) (l : Layout) (gotos : List (ℕ × ℕ)) → Takes T (step.One class.GotoLoop ∷ []) (goto_lines g ls l gotos)
unfolding goto_lines
goto_lines_one g ls l gotos = gotos_one g ls l (named_gotos (answer_names g) gotos)

gotos_optional : {T : Told} (g : Grammar) (ls : List Layout) (l : Layout) (state : Lr1State) → Takes T (step.Optional class.GotoLoop ∷ []) (gotos_if g ls l state)
gotos_optional g ls l state = either (goes_on g ls state) (optional_one (goto_lines_one g ls l state.gotos.entries)) (optional_none class.GotoLoop)

-- the function of a state
state_header_one : {T : Told} (g : Grammar) (states : List Lr1State) (n : ℕ) (l : Layout) → Takes T (step.One class.HeaderState ∷ []) (state_header g states n l)
unfolding steps_of members_of state_header
state_header_one g states n l = header_one class.HeaderState (name.State n) (generics_of g ++ tokens_generic g ∷ []) (declared_texts g ++ state_parameters g states l) (state_answer g) (clauses_of g) refl

state_one : {T : Told} (g : Grammar) (states : List Lr1State) (ls : List Layout) (n : ℕ) (state : Lr1State) → Takes T (step.One class.StateFn ∷ []) (state_lines g states ls n state)
unfolding steps_of holes_of members_of state_lines state_arms
state_one g states ls n state =
    let l = layout_at ls n in
    over_one class.StateFn part.StateFn refl refl
    (beside (beside (beside (state_header_one g states n l) (optional_if class.NextToken part.NextToken (not (has_lookahead l)) refl)) (text_many class.SlotLine part.SlotLine refl (map decimal (new_cells l))))
    (beside (beside (beside (shifts_many g ls l state.shifts.entries) (all_reductions g l state.reductions)) (error_one l)) (gotos_optional g ls l state)))

pub states_many : {T : Told} (g : Grammar) (states : List Lr1State) (ls : List Layout) (n : ℕ) (rest : List Lr1State) → Takes T (step.Many class.StateFn ∷ []) (states_from g states ls n rest)
states_many g states ls n [] = many_none class.StateFn
states_many g states ls n (state ∷ rest) = many_more (many_one (state_one g states ls n state)) (states_many g states ls (n + 1) rest)
