-- The tables of a module: actions, gotos and the names of terminals.
use Rattle.std.specs.Prelude.{ℕ, suc, ◌+◌, ◌==◌, max, List, [], ◌∷◌, ◌++◌, length, map, codes, decimal, if◌then◌else◌}
use Rattle.std.specs.List.{flat_map, remove}
use Rattle.lp_form.specs.declared.part.Part.TheVariants as part
use Rattle.lp_repr.specs.Numbering.{nonterminals_of, terminals_of}
use Rattle.lp_repr.specs.Shown.{terminal_text}
use Rattle.lp_repr.specs.declared.lr1.Lr1State.{Lr1State}
use Rattle.lp_repr.specs.declared.repr.Grammar.{Grammar}
use Rattle.lp_repr.specs.declared.repr.NonterminalString.{NonterminalString}
use Rattle.lp_repr.specs.declared.repr.TerminalString.{TerminalString}
use Rattle.lp_repr.specs.declared.repr.TerminalString.TheVariants.{Quoted, Bare, Error}
use Rattle.lp_tree.specs.ProgramTree.{Item, leaf}
use Rattle.lp_build.specs.Built.{barred, over, row, text_rows}
use Rattle.lp_parts.specs.Entries.{action_entries, end_entries}
use Rattle.lp_state_parts.specs.GotoLaw.{target_at}
use Rattle.lp_state_parts.specs.Gotos.{arms_of, column_from, range_counts}
use Rattle.lp_state_parts.specs.declared.gotos.GotoArm.{GotoArm}
use Rattle.lp_state_parts.specs.declared.gotos.Gotos.{Gotos}
use Rattle.lp_state_parts.specs.declared.gotos.Gotos.TheVariants.{Nowhere, One, Several}
use Rattle.lp_state_parts.specs.declared.gotos.StateRange.{StateRange}
use Rattle.lp_table.specs.Starts.{state_text}

-- the entries by state and terminal, in one list
unfoldable pub action_table : Grammar → List Lr1State → List Item
action_table g states =
    (part.ActionTable, state_text g states ∷ [], action_entries (length (terminals_of g)) states, 0) ∷ []

-- the entries by state at the end of input
unfoldable pub end_table : Grammar → List Lr1State → List Item
end_table g states = (part.EofTable, state_text g states ∷ [], end_entries states, 0) ∷ []

-- where an entry stands among them
unfoldable pub action_lookup : Grammar → List Lr1State → List Item
action_lookup g states =
    if length (terminals_of g) == 1 then leaf part.ActionLookupOne (state_text g states ∷ [])
    else leaf part.ActionLookup (state_text g states ∷ decimal (length (terminals_of g)) ∷ [])

-- one state, or the first and the last of several
abbrev pub range_shown : StateRange → List ℕ
range_shown r = if r.first == r.last then decimal r.first else decimal r.first ++ (codes "..=" ++ decimal r.last)

-- the states of a target
abbrev pub arm_row : GotoArm → Item
arm_row arm = row part.GotoRange (barred (map range_shown arm.ranges) ∷ decimal arm.target ∷ [])

-- the arm of a nonterminal with these gotos
abbrev pub printed_gotos : ℕ → Gotos → List Item
printed_gotos n Nowhere = []
printed_gotos n (One target) = leaf part.GotoOne (decimal n ∷ decimal target ∷ [])
printed_gotos n (Several rest other) = over part.GotoMatch (decimal n ∷ decimal other ∷ []) (map arm_row rest)

-- the greatest of some counts, and the first place where a count stands
abbrev pub greatest : List ℕ → ℕ
greatest [] = 0
greatest (n ∷ ns) = max n (greatest ns)

abbrev pub first_place : ℕ → List ℕ → ℕ
first_place m [] = 0
first_place m (n ∷ ns) = if n == m then 0 else suc (first_place m ns)

-- the place of the catch-all: the first arm with the most ranges
abbrev pub catch_all_place : List GotoArm → ℕ
catch_all_place arms = first_place (greatest (range_counts arms)) (range_counts arms)

-- the arm of a nonterminal, over the states of its targets: none, one target, or all but the catch-all
abbrev pub gotos_lines : ℕ → List GotoArm → List Item
gotos_lines n [] = []
gotos_lines n (a ∷ []) = leaf part.GotoOne (decimal n ∷ decimal a.target ∷ [])
gotos_lines n (a ∷ (b ∷ arms)) =
    over part.GotoMatch (decimal n ∷ decimal (target_at (a ∷ (b ∷ arms)) (catch_all_place (a ∷ (b ∷ arms)))) ∷ [])
    (map arm_row (remove (a ∷ (b ∷ arms)) (catch_all_place (a ∷ (b ∷ arms)))))

-- those of nonterminals, from a number on
abbrev pub gotos_from : List Lr1State → ℕ → List NonterminalString → List Item
gotos_from states n [] = []
gotos_from states n (name ∷ names) =
    gotos_lines n (arms_of (column_from n 0 states)) ++ gotos_from states (n + 1) names

-- the goto function
unfoldable pub goto_function : Grammar → List Lr1State → List Item
goto_function g states = over part.GotoFn (state_text g states ∷ []) (gotos_from states 0 (nonterminals_of g))

-- the name of a terminal that isn't the error terminal
abbrev pub terminal_name : TerminalString → List (List ℕ)
terminal_name (Quoted text) = terminal_text (Quoted text) ∷ []
terminal_name (Bare name) = terminal_text (Bare name) ∷ []
terminal_name Error = []

unfoldable pub terminal_lines : List TerminalString → List Item
terminal_lines terminals = over part.TerminalList [] (text_rows part.TerminalRow (flat_map terminal_name terminals))

abbrev pub terminal_names : Grammar → List Item
terminal_names g = terminal_lines (terminals_of g)

-- the terminals with an action in a state
abbrev pub expected_lines : Grammar → List Lr1State → List Item
expected_lines g states = leaf part.Expected (state_text g states ∷ [])
