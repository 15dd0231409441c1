-- The functions of actions.
use Rattle.std.proofs.Common.{◌≡◌, ℕ, ◌+◌, ◌&&◌, not, Bool, true, false, List, [], ◌∷◌, ◌++◌, length, map, All, if◌then◌else◌, refl}
use Rattle.std.proofs.lemmas.List.Elements.{All-head, All-tail}
use Rattle.lp_form.specs.Classes.{members_of}
use Rattle.lp_form.specs.Templates.{steps_of, holes_of}
use Rattle.lp_form.specs.declared.class.Class.TheVariants as class
use Rattle.lp_form.specs.declared.part.Part.TheVariants as part
use Rattle.lp_form.specs.declared.template.Step.TheVariants as step
use Rattle.lp_repr.specs.declared.repr.ActionFnDefn.{ActionFnDefn}
use Rattle.lp_repr.specs.declared.repr.ActionFnDefnKind.{ActionFnDefnKind}
use Rattle.lp_repr.specs.declared.repr.ActionFnDefnKind.TheVariants.{User, Lookaround, Inline}
use Rattle.lp_repr.specs.declared.repr.LookaroundActionFn.TheVariants.{Lookahead, Lookbehind}
use Rattle.lp_repr.specs.declared.repr.Grammar.{Grammar}
use Rattle.lp_repr.specs.declared.repr.InlinedSymbol.{InlinedSymbol}
use Rattle.lp_repr.specs.declared.repr.InlinedSymbol.TheVariants.{Original, Inlined}
use Rattle.lp_tree.specs.ProgramTree.{Item, leaf}
use Rattle.lp_build.specs.Built.{over, text_rows}
use Rattle.lp_build.specs.Actions.{call_part, outer_part}
use Rattle.lp_build.specs.declared.functions.FunctionName.TheVariants as name
use Rattle.lp_table.specs.Headers.{clauses_of, declared_texts, generics_of, grammar_header}
use Rattle.lp_actions.specs.Parameters.{action_parameters, return_text, width}
use Rattle.lp_actions.specs.Inlines.{action_fails, call_if, calls_from, inline_lines, inlined_count, inner_arguments, outer_arguments, span_if, spans_from, total_width, type_arguments}
use Rattle.lp_actions.specs.ActionFunctions.{action_functions, action_lines, functions_from, has_parameters, kind_lines, kind_part}
use Rattle.lp_emitted.proofs.Headers.{header_one}
use Rattle.lp_emitted.proofs.Rows.{Told, Takes, beside, many_more, many_none, many_one, one_leaf, over_one, text_many, told_leaf}

span_many : {T : Told} (prefix : List ℕ) (total n before : ℕ) (s : InlinedSymbol) → Takes T (step.Many class.InlineSpan ∷ []) (span_if prefix total n before s)
unfolding steps_of holes_of members_of
span_many prefix total n before (Original s) = many_none class.InlineSpan
span_many prefix total n before (Inlined action inner) = many_one (one_leaf class.InlineSpan part.InlineSpan _ _ refl)

spans_many : {T : Told} (prefix : List ℕ) (total n before : ℕ) (ss : List InlinedSymbol) → Takes T (step.Many class.InlineSpan ∷ []) (spans_from prefix total n before ss)
spans_many prefix total n before [] = many_none class.InlineSpan
spans_many prefix total n before (s ∷ ss) = many_more (span_many prefix total n before s) (spans_many prefix total (n + inlined_count s) (before + width s) ss)

end_one : {T : Told} (fallible : Bool) → Takes T (step.One class.CallEnd ∷ []) ((if fallible then part.CallEndFallible else part.CallEndPlain, [], [], 0) ∷ [])
unfolding steps_of holes_of members_of
end_one true = one_leaf class.CallEnd part.CallEndFallible _ _ refl
end_one false = one_leaf class.CallEnd part.CallEndPlain _ _ refl

arguments_many : {T : Told} (texts : List (List ℕ)) → Takes T (step.Many class.ArgumentRow ∷ []) (map (λ text. (part.ArgumentRow, text ∷ [], [], 0)) texts)
unfolding steps_of holes_of members_of
arguments_many texts = text_many class.ArgumentRow part.ArgumentRow refl texts

types_many : {T : Told} (texts : List (List ℕ)) → Takes T (step.Many class.TypeArgument ∷ []) (map (λ text. (part.TypeArgument, text ∷ [], [], 0)) texts)
unfolding steps_of holes_of members_of
types_many texts = text_many class.TypeArgument part.TypeArgument refl texts

-- a call, with type arguments or without
call_by : {T : Told} (types arguments : List (List ℕ)) (holes : List (List ℕ)) (fallible : Bool) → length holes ≡ 2 → Takes T (step.One class.InlineCall ∷ [])
    ((call_part types, holes, [], length ((text_rows part.TypeArgument types ++ text_rows part.ArgumentRow arguments) ++ leaf (if fallible then part.CallEndFallible else part.CallEndPlain) []))
    ∷ ((text_rows part.TypeArgument types ++ text_rows part.ArgumentRow arguments) ++ leaf (if fallible then part.CallEndFallible else part.CallEndPlain) []))
unfolding steps_of holes_of members_of
call_by [] arguments holes fallible two = over_one class.InlineCall part.InlineCall refl two (beside (arguments_many arguments) (end_one fallible))
call_by (t ∷ ts) arguments holes fallible two = over_one class.InlineCall part.InlineCallTyped refl two (beside (beside (types_many (t ∷ ts)) (arguments_many arguments)) (end_one fallible))

call_many : {T : Told} (g : Grammar) (n before : ℕ) (s : InlinedSymbol) → Takes T (step.Many class.InlineCall ∷ []) (call_if g n before s)
call_many g n before (Original s) = many_none class.InlineCall
call_many g n before (Inlined action inner) = many_one (call_by (type_arguments g) (inner_arguments g n before (length inner)) _ (action_fails g action) refl)

calls_many : {T : Told} (g : Grammar) (n before : ℕ) (ss : List InlinedSymbol) → Takes T (step.Many class.InlineCall ∷ []) (calls_from g n before ss)
calls_many g n before [] = many_none class.InlineCall
calls_many g n before (s ∷ ss) = many_more (call_many g n before s) (calls_many g (n + inlined_count s) (before + width s) ss)

outer_by : {T : Told} (types arguments : List (List ℕ)) (action : List ℕ) (wrapped : Bool) → Takes T (step.One class.OuterCall ∷ [])
    (over (outer_part wrapped types) (action ∷ []) (text_rows part.TypeArgument types ++ text_rows part.ArgumentRow arguments))
unfolding steps_of holes_of members_of
outer_by [] arguments action false = over_one class.OuterCall part.OuterCall refl refl (arguments_many arguments)
outer_by (t ∷ ts) arguments action false = over_one class.OuterCall part.OuterCallTyped refl refl (beside (types_many (t ∷ ts)) (arguments_many arguments))
outer_by [] arguments action true = over_one class.OuterCall part.OuterCallOk refl refl (arguments_many arguments)
outer_by (t ∷ ts) arguments action true = over_one class.OuterCall part.OuterCallOkTyped refl refl (beside (types_many (t ∷ ts)) (arguments_many arguments))

inline_one : {T : Told} (g : Grammar) (fallible : Bool) (outer : ℕ) (symbols : List InlinedSymbol) → Takes T (step.One class.ActionBody ∷ []) (inline_lines g fallible outer symbols)
unfolding steps_of holes_of members_of
inline_one g fallible outer symbols = over_one class.ActionBody part.InlineBody {holes = []} refl refl
    (beside (beside (spans_many g.prefix (total_width symbols) 0 0 symbols) (calls_many g 0 0 symbols))
    (outer_by (type_arguments g) (outer_arguments g symbols) _ (fallible && not (action_fails g outer))))

header_for : {T : Told} (g : Grammar) (n : ℕ) (a : ActionFnDefn) → Takes T (step.One class.HeaderAction ∷ []) (grammar_header g (name.Action n) [] (action_parameters g a.kind) (return_text g a))
unfolding steps_of members_of
header_for g n a = header_one class.HeaderAction (name.Action n) (generics_of g ++ []) (declared_texts g ++ action_parameters g a.kind) (return_text g a) (clauses_of g) refl

-- a function of a header and a body
calling_by : {T : Told} (unused : Bool) {header body : List Item} → Takes T (step.One class.HeaderAction ∷ []) header → Takes T (step.One class.ActionBody ∷ []) body →
    Takes T (step.One class.Action ∷ []) (over (if unused then part.ActionFnUnused else part.ActionFn) [] (header ++ body))
unfolding steps_of holes_of members_of
calling_by true h b = over_one class.Action part.ActionFnUnused {holes = []} refl refl (beside h b)
calling_by false h b = over_one class.Action part.ActionFn {holes = []} refl refl (beside h b)

looking_by : {T : Told} (unused : Bool) {header body : List Item} → Takes T (step.One class.HeaderAction ∷ []) header → Takes T (step.One class.LookaroundBody ∷ []) body →
    Takes T (step.One class.Action ∷ []) (over (if unused then part.LookaroundUnused else part.Lookaround) [] (header ++ body))
unfolding steps_of holes_of members_of
looking_by true h b = over_one class.Action part.LookaroundUnused {holes = []} refl refl (beside h b)
looking_by false h b = over_one class.Action part.Lookaround {holes = []} refl refl (beside h b)

-- what is asked of the code of an action
abbrev pub KindTold : Told → ActionFnDefnKind → Type 0
KindTold T (User patterns types code) = T.code code
KindTold T (Lookaround place) = Unit {0}
KindTold T (Inline outer symbols) = Unit {0}

action_by : {T : Told} (g : Grammar) (fallible unused : Bool) (kind : ActionFnDefnKind) {header : List Item} → KindTold T kind → Takes T (step.One class.HeaderAction ∷ []) header →
    Takes T (step.One class.Action ∷ []) (over (kind_part kind unused) [] (header ++ kind_lines g fallible kind))
unfolding steps_of holes_of members_of
action_by g fallible unused (User patterns types code) told h = calling_by unused h (told_leaf class.ActionBody part.UserBody _ _ refl (told, tt))
action_by g fallible unused (Lookaround Lookahead) told h = looking_by unused h (one_leaf class.LookaroundBody part.LookaheadBody _ _ refl)
action_by g fallible unused (Lookaround Lookbehind) told h = looking_by unused h (one_leaf class.LookaroundBody part.LookbehindBody _ _ refl)
action_by g fallible unused (Inline outer symbols) told h = calling_by unused h (inline_one g fallible outer symbols)

action_one : {T : Told} (g : Grammar) (n : ℕ) (a : ActionFnDefn) → KindTold T a.kind → Takes T (step.One class.Action ∷ []) (action_lines g n a)
action_one g n a told = action_by g a.fallible (has_parameters g) a.kind told (header_for g n a)

-- and of those of actions
abbrev pub CodesTold : Told → List ActionFnDefn → Type 0
CodesTold T actions = All (λ a. KindTold T a.kind) actions

actions_many : {T : Told} (g : Grammar) (n : ℕ) (actions : List ActionFnDefn) → CodesTold T actions → Takes T (step.Many class.Action ∷ []) (functions_from g n actions)
actions_many g n [] told = many_none class.Action
actions_many {T} g n (a ∷ rest) told =
    many_more (many_one (action_one g n a (All-head (λ (b : ActionFnDefn). KindTold T b.kind) a rest told))) (actions_many g (n + 1) rest (All-tail (λ (b : ActionFnDefn). KindTold T b.kind) a rest told))

pub action_functions_many : {T : Told} (g : Grammar) → CodesTold T g.action_fn_defns → Takes T (step.Many class.Action ∷ []) (action_functions g)
unfolding action_functions
action_functions_many g told = actions_many g 0 g.action_fn_defns told
