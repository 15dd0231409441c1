-- The module of table-driven code.
use Rattle.std.proofs.Common.{ℕ, Bool, true, false, List, [], ◌∷◌, ◌++◌, length, All, if◌then◌else◌, refl}
use Rattle.lp_form.specs.Classes.{members_of}
use Rattle.lp_form.specs.Templates.{steps_of, holes_of}
use Rattle.lp_form.specs.declared.class.Class.TheVariants as class
use Rattle.lp_form.specs.declared.part.Part.TheVariants as part
use Rattle.lp_form.specs.declared.template.Step.{Step}
use Rattle.lp_form.specs.declared.template.Step.TheVariants as step
use Rattle.lp_repr.specs.declared.lr1.Lr1State.{Lr1State}
use Rattle.lp_repr.specs.declared.repr.Grammar.{Grammar}
use Rattle.lp_tree.specs.ProgramTree.{Item}
use Rattle.lp_build.specs.declared.functions.FunctionName.TheVariants as name
use Rattle.lp_table.specs.BuiltTable.{built_table, table_items, with_machine, with_reductions, with_tables}
use Rattle.lp_table.specs.FrameLines.{inner_use, inner_uses, is_interned, module_parts, parse_answer, parse_generics, parse_header, parse_parameters, parser_parts, source_lines, table_parser, token_use_lines, use_lines}
use Rattle.lp_table.specs.Headers.{clauses_of}
use Rattle.lp_table.specs.MachineLines.{drive_call}
use Rattle.lp_table.specs.Starts.{Start}
use Rattle.lp_emitted.proofs.Headers.{header_one}
use Rattle.lp_emitted.proofs.Machines.{acceptance_one, definition_one, drive_one, expected_list_one, implementation_one, simulation_one, symbol_values_one}
use Rattle.lp_emitted.proofs.Reductions.{mismatch_one, pop_functions_many, reduce_function_one, reduce_functions_many}
use Rattle.lp_emitted.proofs.Rows.{Told, Takes, beside, many_all, many_one, one_leaf, over_one, told_leaf}
use Rattle.lp_emitted.proofs.Tables.{TablesTold, action_lookup_one, action_table_one, end_table_one, expected_one, goto_function_one, terminal_names_one}
use Rattle.lp_emitted.proofs.Tokens.{token_numbers_one, token_symbols_one}

-- uses, and then those that each module has
abbrev pub use_steps : List Step
use_steps = step.Many class.Use ∷ step.One class.StandardUses ∷ []

-- what is asked of the uses of a module inside
abbrev pub InnerTold : Told → Grammar → Type 0
InnerTold T g = All (λ text. T.use_text (inner_use text)) g.uses

pub inner_uses_take : {T : Told} (g : Grammar) → InnerTold T g → Takes T use_steps (inner_uses g)
unfolding steps_of holes_of members_of inner_uses
inner_uses_take {T} g uses = beside
    (many_all class.Use (λ text. T.use_text (inner_use text)) use_lines (λ text h. many_one (told_leaf class.Use part.UseLine _ _ refl (h, tt))) g.uses uses)
    (one_leaf class.StandardUses part.StandardUses _ _ refl)

token_use_by : {T : Told} (interned : Bool) → Takes T (step.One class.TokenUse ∷ []) ((if interned then part.TokenUseInterned else part.TokenUsePlain, [], [], 0) ∷ [])
unfolding steps_of holes_of members_of
token_use_by true = one_leaf class.TokenUse part.TokenUseInterned _ _ refl
token_use_by false = one_leaf class.TokenUse part.TokenUsePlain _ _ refl

pub token_use_one : {T : Told} (g : Grammar) → Takes T (step.One class.TokenUse ∷ []) (token_use_lines g)
token_use_one g = token_use_by (is_interned g)

source_by : {T : Told} (interned : Bool) → Takes T (step.One class.TokenSource ∷ []) ((if interned then part.TokenSourceInterned else part.TokenSourcePlain, [], [], 0) ∷ [])
unfolding steps_of holes_of members_of
source_by true = one_leaf class.TokenSource part.TokenSourceInterned _ _ refl
source_by false = one_leaf class.TokenSource part.TokenSourcePlain _ _ refl

pub source_one : {T : Told} (g : Grammar) → Takes T (step.One class.TokenSource ∷ []) (source_lines g)
unfolding source_lines
source_one g = source_by (is_interned g)

pub parse_header_one : {T : Told} (g : Grammar) (s : Start) → Takes T (step.One class.HeaderParse ∷ []) (parse_header g s)
unfolding steps_of members_of parse_header
parse_header_one g s = header_one class.HeaderParse (name.Parse s.visibility) (parse_generics g) (parse_parameters g) (parse_answer g s) (clauses_of g) refl

-- what stands below a parser by tables
abbrev parser_steps : List Step
parser_steps = step.One class.HeaderParse ∷ step.One class.TokenSource ∷ step.One class.Drive ∷ []

parser_by : {T : Told} (interned : Bool) (visibility public_name : List ℕ) {below : List Item} → Takes T parser_steps below → Takes T (step.One class.TableParser ∷ []) (parser_parts interned visibility public_name below)
unfolding steps_of holes_of members_of parser_parts
parser_by true visibility public_name t = over_one class.TableParser part.TableParserInterned refl refl t
parser_by false visibility public_name t = over_one class.TableParser part.TableParserPlain refl refl t

table_parser_one : {T : Told} (g : Grammar) (s : Start) → Takes T (step.One class.TableParser ∷ []) (table_parser g s (drive_call g))
unfolding table_parser
table_parser_one g s = parser_by (is_interned g) s.visibility s.public_name (beside (beside (parse_header_one g s) (source_one g)) (drive_one g))

-- the items of a module: tables, the struct, the parser and the reductions
abbrev table_steps : List Step
table_steps = step.One class.ActionTable ∷ step.One class.ActionLookup ∷ step.One class.EofTable ∷ step.One class.GotoFn ∷ step.One class.TerminalList ∷ step.One class.Expected ∷ []

tables_take : {T : Told} (g : Grammar) (states : List Lr1State) {before : List Item} → TablesTold T g states → Takes T (step.One class.SymbolEnum ∷ []) before → Takes T (step.One class.SymbolEnum ∷ table_steps) (with_tables g states before)
tables_take g states tables t = beside (beside (beside (beside (beside (beside t (action_table_one g states tables)) (action_lookup_one g states)) (end_table_one g states tables)) (goto_function_one g states)) (terminal_names_one g)) (expected_one g states)

abbrev machine_steps : List Step
machine_steps = step.One class.ExpectedFromStates ∷ step.One class.MachineStruct ∷ step.One class.MachineImpl ∷ step.One class.TokenToInteger ∷ step.One class.TokenToSymbol ∷ step.One class.SimulateReduce ∷ []

machine_takes : {T : Told} (g : Grammar) (states : List Lr1State) (s : Start) {before : List Item} → Takes T (step.One class.SymbolEnum ∷ table_steps) before → Takes T ((step.One class.SymbolEnum ∷ table_steps) ++ machine_steps) (with_machine g states s before)
machine_takes g states s t = beside (beside (beside (beside (beside (beside t (expected_list_one g states)) (definition_one g)) (implementation_one g states s)) (token_numbers_one g)) (token_symbols_one g)) (simulation_one g states s)

abbrev reduction_steps : List Step
reduction_steps = step.One class.TableParser ∷ step.One class.Accepts ∷ step.One class.Reduce ∷ step.One class.Mismatch ∷ step.Many class.Pop ∷ step.Many class.ReduceFn ∷ []

reductions_take : {T : Told} (g : Grammar) (states : List Lr1State) (s : Start) {before : List Item} → Takes T ((step.One class.SymbolEnum ∷ table_steps) ++ machine_steps) before →
    Takes T (((step.One class.SymbolEnum ∷ table_steps) ++ machine_steps) ++ reduction_steps) (with_reductions g states s before)
reductions_take g states s t = beside (beside (beside (beside (beside (beside t (table_parser_one g s)) (acceptance_one g states)) (reduce_function_one g states s)) mismatch_one) (pop_functions_many g)) (reduce_functions_many g s)

table_items_one : {T : Told} (g : Grammar) (states : List Lr1State) (s : Start) → TablesTold T g states → Takes T (step.One class.ModuleItems ∷ []) ((part.TableItems, [], [], length (table_items g states s)) ∷ table_items g states s)
unfolding steps_of holes_of members_of
table_items_one g states s tables = over_one class.ModuleItems part.TableItems {holes = []} refl refl (reductions_take g states s (machine_takes g states s (tables_take g states tables (symbol_values_one g))))

pub built_table_one : {T : Told} (g : Grammar) (states : List Lr1State) (s : Start) → InnerTold T g → TablesTold T g states → Takes T (step.One class.Module ∷ []) (built_table g states s)
unfolding steps_of holes_of members_of module_parts
built_table_one g states s uses tables = over_one class.Module part.ParseModule refl refl (beside (beside (inner_uses_take g uses) (token_use_one g)) (table_items_one g states s tables))
