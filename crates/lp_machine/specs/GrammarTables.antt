-- What a machine looks up in a grammar: its productions, terminals and parameters by number.
use Rattle.std.specs.Prelude.{ℕ, ◌+◌, List, [], ◌∷◌, ◌++◌, map, length, Option, Some, None, Bool, true, false, position, is_some, slice_get, if◌then◌else◌}
use Rattle.std.specs.List.{list_any}
use Rattle.std.specs.BTreeMap.{get, values}
use Rattle.std.specs.declared.cmp.Ordering.{Ordering}
use Rattle.lp_repr.specs.Names.{same_text, same_nonterminal}
use Rattle.lp_repr.specs.Shown.{terminal_text, pattern_text}
use Rattle.lp_repr.specs.declared.lr1.Lr1State.{Lr1State}
use Rattle.lp_repr.specs.declared.repr.Grammar.{Grammar}
use Rattle.lp_repr.specs.declared.repr.NonterminalString.{NonterminalString}
use Rattle.lp_repr.specs.declared.repr.NonterminalData.{NonterminalData}
use Rattle.lp_repr.specs.declared.repr.Production.{Production}
use Rattle.lp_repr.specs.declared.repr.Parameter.{Parameter}
use Rattle.lp_repr.specs.declared.repr.TokenPattern.{TokenPattern}
use Rattle.lp_repr.specs.declared.repr.TerminalString.{TerminalString}
use Rattle.lp_repr.specs.declared.repr.TerminalString.TheVariants.{Quoted, Bare, Error}
use Rattle.lp_repr.specs.contracts.repr.TerminalStringOrd.TheImpl as terminal_ord
use Rattle.lp_driver.specs.declared.answers.Expecting.{Expecting}
use Rattle.lp_driver.specs.Values.{Text}
use Rattle.lp_machine.specs.declared.lookup.Rule.{Rule}
use Rattle.lp_machine.specs.declared.lookup.KnownTerminal.{KnownTerminal}
use Rattle.lp_machine.specs.Tables.{Tables}
use Rattle.lp_machine.specs.TablesView.{tables_with}

-- a nonterminal that stands under a public name
abbrev pub is_start : Grammar → NonterminalString → Bool
is_start g name = list_any (λ s. same_nonterminal s name) (values g.start_nonterminals)

-- a production of the nonterminal of this number
abbrev pub rule_of : ℕ → Bool → Production → Rule
rule_of k starts p = record { length = length p.symbols; nonterminal = k; action = p.action; is_start = starts }

-- the productions of these nonterminals, whose numbers begin with k
abbrev pub rules_from : Grammar → ℕ → List (NonterminalString × NonterminalData) → List Rule
rules_from g k [] = []
rules_from g k (entry ∷ entries) = map (rule_of k (is_start g entry.0)) entry.1.productions ++ rules_from g (k + 1) entries

-- the productions by number: through the nonterminals in key order
abbrev pub rules_of : Grammar → List Rule
rules_of g = rules_from g 0 g.nonterminals.entries

-- how terminals are ordered
abbrev pub terminal_cmp : TerminalString → TerminalString → Ordering
terminal_cmp = (terminal_ord.ghosts).cmp

abbrev pub is_error : TerminalString → Bool
is_error (Quoted text) = false
is_error (Bare name) = false
is_error Error = true

-- a terminal, where it has a pattern and is not the error terminal
abbrev pub known_by : TerminalString → Option TokenPattern → List KnownTerminal
known_by terminal None = []
known_by terminal (Some pattern) =
    if is_error terminal then [] else record { name = terminal_text terminal; form = pattern_text pattern; captures = length pattern.holes } ∷ []

-- those with a pattern, without the error terminal
abbrev pub known_among : Grammar → List TerminalString → List KnownTerminal
known_among g [] = []
known_among g (terminal ∷ terminals) = known_by terminal (get terminal_cmp g.conversions terminal) ++ known_among g terminals

-- the number of the error terminal, where errors are mended
abbrev pub error_of : Grammar → Option ℕ
error_of g = if g.uses_error_recovery then position is_error g.terminals.all else None

abbrev pub is_named : Option Parameter → Text → Bool
is_named None name = false
is_named (Some p) name = same_text p.name name

-- of these values, whose numbers begin with i, the last one whose parameter has this name, else found
abbrev pub last_named : List Parameter → Text → ℕ → List Text → Option Text → Option Text
last_named names name i [] found = found
last_named names name i (value ∷ values) found =
    last_named names name (i + 1) values (if is_named (slice_get names i) name then Some value else found)

abbrev pub or_nothing : Option Text → List Text
or_nothing None = []
or_nothing (Some text) = text ∷ []

-- the values of these parameters among all: where two have one name, the last one's value stands
-- for both
abbrev pub params_among : List Parameter → List Text → List Parameter → List Text
params_among all values [] = []
params_among all values (p ∷ ps) = or_nothing (last_named all p.name 0 values None) ++ params_among all values ps

-- the tables of a grammar and its states, with the values of its parameters and the calls that are
-- to fail
abbrev pub grammar_tables : Grammar → List Lr1State → Expecting → List Text → List ℕ → Tables
grammar_tables g states expecting params failing =
    tables_with states (rules_of g) (known_among g g.terminals.all) (is_some g.types.loc) (error_of g) expecting (params_among g.parameters params g.parameters) failing g.action_fn_defns
