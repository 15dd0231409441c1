-- The module of recursive ascent code that a grammar and its states determine.
use Rattle.std.specs.Prelude.{ℕ, ◌+◌, true, List, [], ◌∷◌, ◌++◌, slice_get, Option, Some, None}
use Rattle.lp_form.specs.declared.part.Part.TheVariants as part
use Rattle.lp_repr.specs.Numbering.{productions_of}
use Rattle.lp_repr.specs.declared.lr1.Lr1State.{Lr1State}
use Rattle.lp_repr.specs.declared.repr.Grammar.{Grammar}
use Rattle.lp_repr.specs.declared.repr.NonterminalString.{NonterminalString}
use Rattle.lp_repr.specs.declared.repr.Production.{Production}
use Rattle.lp_tree.specs.ProgramTree.{Item, leaf}
use Rattle.lp_build.specs.Ascent.{tried}
use Rattle.lp_build.specs.Built.{over}
use Rattle.lp_build.specs.Functions.{parser_part}
use Rattle.lp_parts.specs.Texts.{arguments_of}
use Rattle.lp_table.specs.FrameLines.{inner_uses, is_interned, parse_header, source_lines, token_use_lines}
use Rattle.lp_table.specs.MachineLines.{phantom_text, reduced_of}
use Rattle.lp_table.specs.Starts.{Start, start_for, state_text}
use Rattle.lp_table.specs.TableLines.{action_lookup, action_table, goto_function, terminal_names}
use Rattle.lp_ascent.specs.AnswerLines.{answer_lines, answer_name}
use Rattle.lp_ascent.specs.Slots.{layouts_of}
use Rattle.lp_ascent.specs.StateLines.{states_from}

-- the call of the first state
abbrev pub first_call : Grammar → List Lr1State → Start → List Item
first_call g states s =
    leaf part.Start (state_text g states ∷ arguments_of g.parameters ∷ phantom_text g ∷ answer_name s.nonterminal ∷ [])

-- what is below a parser: the header of its `parse` method, where the tokens come from, and the body
abbrev pub parser_lines : Grammar → Start → List Item → List Item
parser_lines g s body = (parse_header g s ++ source_lines g) ++ body

-- the parser by recursive ascent, with this body of its `parse` method
abbrev pub parser_over : Grammar → Start → List Item → List Item
parser_over g s body = over (parser_part true (is_interned g)) (s.visibility ∷ s.public_name ∷ []) (parser_lines g s body)

unfoldable pub ascent_parser : Grammar → List Lr1State → Start → List Item
ascent_parser g states s = parser_over g s (first_call g states s)

-- the functions of all states
unfoldable pub state_functions : Grammar → List Lr1State → List Item
state_functions g states = states_from g states (layouts_of g states) 0 states

-- what reductions of a trial pop and produce, from a number on
abbrev pub tried_from : Grammar → Start → ℕ → List Production → List Item
tried_from g s n [] = []
tried_from g s n (p ∷ ps) = tried n (reduced_of g s p) ∷ tried_from g s (n + 1) ps

unfoldable pub trial_lines : Grammar → List Lr1State → Start → List Item
trial_lines g states s = over part.AscentSimulate (state_text g states ∷ []) (tried_from g s 0 (productions_of g))

-- what trials of terminals ask, after what stands before it: the tables, the names of terminals, and the trials
abbrev pub with_trials : Grammar → List Lr1State → Start → List Item → List Item
with_trials g states s before =
    ((((((before ++ action_table g states) ++ action_lookup g states) ++ goto_function g states) ++ terminal_names g) ++ trial_lines g states s)
    ++ leaf part.AscentAccepts (state_text g states ∷ []))
    ++ leaf part.AscentExpected (state_text g states ∷ [])

-- the items of the module
abbrev pub ascent_items : Grammar → List Lr1State → Start → List Item
ascent_items g states s =
    with_trials g states s ((ascent_parser g states s ++ answer_lines g) ++ state_functions g states)

-- the module of a start with these items, and that with its states
abbrev pub module_over : Grammar → Start → List Item → List Item
module_over g s rows =
    over part.ParseModule (s.nonterminal.0 ∷ []) ((inner_uses g ++ token_use_lines g) ++ over part.AscentItems [] rows)

abbrev pub built_ascent : Grammar → List Lr1State → Start → List Item
built_ascent g states s = module_over g s (ascent_items g states s)

-- that of the start of a number
abbrev pub built_ascent_for : Grammar → List Lr1State → Option (NonterminalString × NonterminalString) → List Item
built_ascent_for g states None = []
built_ascent_for g states (Some p) = built_ascent g states (start_for g p.0 p.1)

abbrev pub built_ascent_at : Grammar → List Lr1State → ℕ → List Item
built_ascent_at g states start = built_ascent_for g states (slice_get g.start_nonterminals.entries start)
