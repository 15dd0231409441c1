-- The texts of a grammar by their kinds, and the rule of each kind.
use Rattle.std.specs.Prelude.{ℕ, ◌<◌, false, List, All, Option, IsTrue}
use Rattle.std.specs.BTreeMap.{keys, values}
use Rattle.lp_repr.specs.declared.repr.Grammar.{Grammar}
use Rattle.lp_repr.specs.Shown.{terminal_text}
use Rattle.lp_tok.specs.Signs.{line_feed}
use Rattle.lp_texts.specs.FirstWrong.{IsFirst}
use Rattle.lp_texts.specs.OneLine.{IsWrong}
use Rattle.lp_texts.specs.Pattern.{AnswersPattern}
use Rattle.lp_texts.specs.Names.{stands, is_wrong_attribute, is_wrong_terminal}
use Rattle.lp_texts.specs.UserCode.{AnswersUse, AnswersAction}
use Rattle.lp_texts.specs.TypeTexts.{type_texts}
use Rattle.lp_texts.specs.Counted.{Meets, FailsFirst}
use Rattle.lp_texts.specs.declared.faults.TextKind.{TextKind}
use Rattle.lp_texts.specs.declared.faults.TextKind.TheVariants.{Use, Attribute, Terminal, Nonterminal, Pattern, TypeText, Code}
use Rattle.lp_texts.specs.declared.faults.TextFault.{TextFault}
use Rattle.lp_texts.specs.declared.faults.TextFault.TheVariants.{Bad, Memory}

abbrev pub AnswersAttribute : List ℕ → Option ℕ → Type 0
AnswersAttribute text = IsFirst (λ i. IsTrue (is_wrong_attribute text i))

-- a terminal's text as it is shown
abbrev pub AnswersTerminal : List ℕ → Option ℕ → Type 0
AnswersTerminal text = IsFirst (λ i. IsTrue (is_wrong_terminal text i))

-- a nonterminal's name has no line end
abbrev pub AnswersNonterminal : List ℕ → Option ℕ → Type 0
AnswersNonterminal text = IsFirst (λ i. IsTrue (stands line_feed text i))

-- a text of one line
abbrev pub AnswersLine : List ℕ → Option ℕ → Type 0
AnswersLine text = IsFirst (IsWrong false text)

-- each text of a kind meets its rule
abbrev pub KindMeets : Grammar → TextKind → Type 0
KindMeets g Use = All (Meets AnswersUse) g.uses
KindMeets g Attribute = All (Meets AnswersAttribute) g.module_attributes
KindMeets g Terminal = All (Meets (λ t. AnswersTerminal (terminal_text t))) g.terminals.all
KindMeets g Nonterminal = All (Meets (λ n. AnswersNonterminal n.0)) (keys g.nonterminals)
KindMeets g Pattern = All (Meets (λ p. AnswersPattern p.pieces)) (values g.conversions)
KindMeets g TypeText = All (Meets AnswersLine) (type_texts g)
KindMeets g Code = All (Meets (λ a. AnswersAction a.kind)) g.action_fn_defns

-- the first text of a kind that breaks its rule has this number, and this is its first wrong byte
abbrev pub KindFails : Grammar → ℕ → ℕ → TextKind → Type 0
KindFails g number byte Use = FailsFirst AnswersUse g.uses number byte
KindFails g number byte Attribute = FailsFirst AnswersAttribute g.module_attributes number byte
KindFails g number byte Terminal = FailsFirst (λ t. AnswersTerminal (terminal_text t)) g.terminals.all number byte
KindFails g number byte Nonterminal = FailsFirst (λ n. AnswersNonterminal n.0) (keys g.nonterminals) number byte
KindFails g number byte Pattern = FailsFirst (λ p. AnswersPattern p.pieces) (values g.conversions) number byte
KindFails g number byte TypeText = FailsFirst AnswersLine (type_texts g) number byte
KindFails g number byte Code = FailsFirst (λ a. AnswersAction a.kind) g.action_fn_defns number byte

-- the kinds in their order
abbrev pub place_of_kind : TextKind → ℕ
place_of_kind Use = 0
place_of_kind Attribute = 1
place_of_kind Terminal = 2
place_of_kind Nonterminal = 3
place_of_kind Pattern = 4
place_of_kind TypeText = 5
place_of_kind Code = 6

-- each text of a grammar meets the rule of its kind
abbrev pub TextsMeet : Grammar → Type 0
TextsMeet g = (kind : TextKind) → KindMeets g kind

-- the first text that breaks its rule, by kind and number, and its first wrong byte
abbrev pub IsFirstFault : Grammar → TextFault → Type 0
IsFirstFault g (Bad place byte) = ((kind : TextKind) → place_of_kind kind < place_of_kind place.kind → KindMeets g kind) × KindFails g place.number byte place.kind
IsFirstFault g Memory = Unit {0}
