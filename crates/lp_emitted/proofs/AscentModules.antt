-- The module of recursive ascent.
use Rattle.std.proofs.Common.{ℕ, ◌+◌, Bool, true, false, List, [], ◌∷◌, Option, Some, None, refl}
use Rattle.lp_form.specs.Classes.{members_of}
use Rattle.lp_form.specs.Templates.{steps_of, holes_of}
use Rattle.lp_form.specs.declared.class.Class.TheVariants as class
use Rattle.lp_form.specs.declared.part.Part.TheVariants as part
use Rattle.lp_form.specs.declared.template.Step.{Step}
use Rattle.lp_form.specs.declared.template.Step.TheVariants as step
use Rattle.lp_repr.specs.Numbering.{productions_of}
use Rattle.lp_repr.specs.declared.lr1.Lr1State.{Lr1State}
use Rattle.lp_repr.specs.declared.repr.Grammar.{Grammar}
use Rattle.lp_repr.specs.declared.repr.Production.{Production}
use Rattle.lp_tree.specs.ProgramTree.{Item}
use Rattle.lp_tree.specs.declared.tree.Reduced.{Reduced}
use Rattle.lp_build.specs.Ascent.{tried}
use Rattle.lp_build.specs.Built.{over}
use Rattle.lp_build.specs.Functions.{parser_part}
use Rattle.lp_table.specs.FrameLines.{is_interned}
use Rattle.lp_table.specs.MachineLines.{reduced_of}
use Rattle.lp_table.specs.Starts.{Start}
use Rattle.lp_ascent.specs.BuiltAscent.{ascent_items, ascent_parser, built_ascent, first_call, state_functions, trial_lines, tried_from}
use Rattle.lp_ascent.specs.Slots.{layouts_of}
use Rattle.lp_emitted.proofs.Ascent.{answer_lines_one, states_many}
use Rattle.lp_emitted.proofs.Rows.{Told, Takes, beside, many_more, many_none, many_one, one_leaf, over_one}
use Rattle.lp_emitted.proofs.TableModules.{InnerTold, inner_uses_take, parse_header_one, source_one, token_use_one}
use Rattle.lp_emitted.proofs.Tables.{TablesTold, action_lookup_one, action_table_one, goto_function_one, terminal_names_one}

first_call_one : {T : Told} (g : Grammar) (states : List Lr1State) (s : Start) → Takes T (step.One class.Start ∷ []) (first_call g states s)
unfolding steps_of holes_of members_of
first_call_one g states s = one_leaf class.Start part.Start _ _ refl

-- what stands below a parser by recursive ascent
abbrev parser_steps : List Step
parser_steps = step.One class.HeaderParse ∷ step.One class.TokenSource ∷ step.One class.Start ∷ []

parser_by : {T : Told} (interned : Bool) (visibility public_name : List ℕ) {below : List Item} → Takes T parser_steps below → Takes T (step.One class.AscentParser ∷ []) (over (parser_part true interned) (visibility ∷ public_name ∷ []) below)
unfolding steps_of holes_of members_of
parser_by true visibility public_name t = over_one class.AscentParser part.AscentParserInterned refl refl t
parser_by false visibility public_name t = over_one class.AscentParser part.AscentParserPlain refl refl t

ascent_parser_one : {T : Told} (g : Grammar) (states : List Lr1State) (s : Start) → Takes T (step.One class.AscentParser ∷ []) (ascent_parser g states s)
unfolding ascent_parser
ascent_parser_one g states s = parser_by (is_interned g) s.visibility s.public_name (beside (beside (parse_header_one g s) (source_one g)) (first_call_one g states s))

state_functions_many : {T : Told} (g : Grammar) (states : List Lr1State) → Takes T (step.Many class.StateFn ∷ []) (state_functions g states)
unfolding state_functions
state_functions_many g states = states_many g states (layouts_of g states) 0 states

tried_one : {T : Told} (n : ℕ) (reduced : Option Reduced) → Takes T (step.One class.AscentRow ∷ []) (tried n reduced ∷ [])
unfolding steps_of holes_of members_of
tried_one n None = one_leaf class.AscentRow part.AscentAccept _ _ refl
tried_one n (Some r) = one_leaf class.AscentRow part.AscentArm _ _ refl

tried_many : {T : Told} (g : Grammar) (s : Start) (n : ℕ) (ps : List Production) → Takes T (step.Many class.AscentRow ∷ []) (tried_from g s n ps)
tried_many g s n [] = many_none class.AscentRow
tried_many g s n (p ∷ ps) = many_more (many_one (tried_one n (reduced_of g s p))) (tried_many g s (n + 1) ps)

trial_one : {T : Told} (g : Grammar) (states : List Lr1State) (s : Start) → Takes T (step.One class.AscentSimulate ∷ []) (trial_lines g states s)
unfolding steps_of holes_of members_of trial_lines
trial_one g states s = over_one class.AscentSimulate part.AscentSimulate refl refl (tried_many g s 0 (productions_of g))

accepts_one : {T : Told} (state_type : List ℕ) → Takes T (step.One class.AscentAccepts ∷ []) ((part.AscentAccepts, state_type ∷ [], [], 0) ∷ [])
unfolding steps_of holes_of members_of
accepts_one state_type = one_leaf class.AscentAccepts part.AscentAccepts _ _ refl

expected_one : {T : Told} (state_type : List ℕ) → Takes T (step.One class.AscentExpected ∷ []) ((part.AscentExpected, state_type ∷ [], [], 0) ∷ [])
unfolding steps_of holes_of members_of
expected_one state_type = one_leaf class.AscentExpected part.AscentExpected _ _ refl

abbrev item_steps : List Step
item_steps = step.One class.AscentParser ∷ step.One class.ReturnEnum ∷ step.Many class.StateFn ∷ step.One class.ActionTable ∷ step.One class.ActionLookup ∷ step.One class.GotoFn ∷ step.One class.TerminalList ∷ step.One class.AscentSimulate ∷ step.One class.AscentAccepts ∷ step.One class.AscentExpected ∷ []

ascent_items_take : {T : Told} (g : Grammar) (states : List Lr1State) (s : Start) → TablesTold T g states → Takes T item_steps (ascent_items g states s)
ascent_items_take g states s tables =
    beside (beside (beside (beside (beside (beside (beside
    (beside (beside (ascent_parser_one g states s) (answer_lines_one g)) (state_functions_many g states))
    (action_table_one g states tables)) (action_lookup_one g states)) (goto_function_one g states)) (terminal_names_one g)) (trial_one g states s)) (accepts_one _)) (expected_one _)

items_one : {T : Told} (g : Grammar) (states : List Lr1State) (s : Start) → TablesTold T g states → Takes T (step.One class.ModuleItems ∷ []) (over part.AscentItems [] (ascent_items g states s))
unfolding steps_of holes_of members_of
items_one g states s tables = over_one class.ModuleItems part.AscentItems {holes = []} refl refl (ascent_items_take g states s tables)

pub built_ascent_one : {T : Told} (g : Grammar) (states : List Lr1State) (s : Start) → InnerTold T g → TablesTold T g states → Takes T (step.One class.Module ∷ []) (built_ascent g states s)
unfolding steps_of holes_of members_of
built_ascent_one g states s uses tables = over_one class.Module part.ParseModule refl refl (beside (beside (inner_uses_take g uses) (token_use_one g)) (items_one g states s tables))
