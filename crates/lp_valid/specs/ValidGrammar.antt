-- Valid grammars, by their ten rules.
use Rattle.std.specs.Prelude.{◌≡◌, ℕ, ◌<◌, length, Some, IsTrue}
use Rattle.lp_repr.specs.Names.{same_terminal}
use Rattle.lp_repr.specs.Numbering.{productions_of, nonterminals_of, terminals_of}
use Rattle.lp_repr.specs.declared.repr.Grammar.{Grammar}
use Rattle.lp_valid.specs.ActionRules.{takes, kind_has_counts, kind_may_fail}
use Rattle.lp_valid.specs.InlineRules.{InlineIsSound}
use Rattle.lp_valid.specs.NameRules.{start_has_names, is_parameter_name, kind_has_names, has_input}
use Rattle.lp_valid.specs.PrefixRules.{PrefixIsApart}
use Rattle.lp_valid.specs.StartRules.{is_start}
use Rattle.lp_valid.specs.SymbolRules.{ProductionIsKnown, action_is_known}
use Rattle.lp_valid.specs.TerminalRules.{terminal_has_type, nonterminal_has_type, ErrorIsLast, EndsInError}
use Rattle.lp_valid.specs.Places.{EachPasses, Then, IsFirstFailing, IsNewBy}

-- the rules
pub data GrammarRule : Type 0 where
  starts : GrammarRule
  names : GrammarRule
  prefixes : GrammarRule
  symbols : GrammarRule
  types : GrammarRule
  counts : GrammarRule
  inlines : GrammarRule
  fallibles : GrammarRule
  error_terminal : GrammarRule
  distinct_terminals : GrammarRule

-- the number of a rule
abbrev pub number : GrammarRule → ℕ
number starts = 1
number names = 2
number prefixes = 3
number symbols = 4
number types = 5
number counts = 6
number inlines = 7
number fallibles = 8
number error_terminal = 9
number distinct_terminals = 10

-- actions' arguments have names that they can have, and at last an interned grammar has its parameter
abbrev pub ActionsAreNamed : Grammar → ℕ → Type 0
ActionsAreNamed g = Then (length g.action_fn_defns) (EachPasses (λ a. kind_has_names a.kind) g.action_fn_defns) (λ place. IsTrue (has_input g))

-- parameters have names that they can have, and then actions' arguments
abbrev pub ParametersAreNamed : Grammar → ℕ → Type 0
ParametersAreNamed g = Then (length g.parameters) (EachPasses (λ p. is_parameter_name p.name) g.parameters) (ActionsAreNamed g)

-- what a rule says of a grammar at a place
abbrev pub Says : Grammar → GrammarRule → ℕ → Type 0
Says g starts = EachPasses (is_start g) g.start_nonterminals.entries
Says g names = Then (length g.start_nonterminals.entries) (EachPasses start_has_names g.start_nonterminals.entries) (ParametersAreNamed g)
Says g prefixes = PrefixIsApart g
Says g symbols = Then (length (productions_of g)) (ProductionIsKnown g) (EachPasses (action_is_known g) g.action_fn_defns)
Says g types = Then (length (terminals_of g)) (EachPasses (terminal_has_type g) (terminals_of g)) (EachPasses (nonterminal_has_type g) (nonterminals_of g))
Says g counts = Then (length (productions_of g)) (EachPasses (λ p. takes g.action_fn_defns p.action (length p.symbols)) (productions_of g)) (EachPasses (λ a. kind_has_counts g.action_fn_defns a.kind) g.action_fn_defns)
Says g inlines = InlineIsSound g.action_fn_defns
Says g fallibles = EachPasses (λ a. kind_may_fail g.action_fn_defns a.fallible a.kind) g.action_fn_defns
Says g error_terminal = Then (length (terminals_of g)) (ErrorIsLast (terminals_of g)) (λ place. EndsInError (terminals_of g) g.uses_error_recovery)
Says g distinct_terminals = IsNewBy same_terminal (terminals_of g)

-- each rule holds at each place
abbrev pub IsValidGrammar : Grammar → Type 0
IsValidGrammar g = (rule : GrammarRule) (place : ℕ) → Says g rule place

-- the rules of lesser numbers hold
abbrev pub HoldsBelow : Grammar → ℕ → Type 0
HoldsBelow g n = (rule : GrammarRule) → number rule < n → (place : ℕ) → Says g rule place

-- the rule of this number fails at this place and at no lesser one, and the rules of lesser numbers hold
abbrev pub IsLeastFailure : Grammar → ℕ → ℕ → Type 0
IsLeastFailure g n place = HoldsBelow g n × ((rule : GrammarRule) → number rule ≡ n → IsFirstFailing (Says g rule) (Some place))
