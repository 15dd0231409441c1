-- What the symbols of a plain grammar stand for.
use Rattle.std.specs.Prelude.{ℕ, List, Option, None, Some}
use Rattle.std.specs.List.{position_from}
use Rattle.std.specs.Option.{option_map}
use Rattle.std.specs.declared.cmp.Ordering.{Ordering}
use Rattle.lp_repr.specs.Names.{same_text, same_terminal}
use Rattle.lp_repr.specs.contracts.text.TextOrd.TheImpl as text_ord
use Rattle.lp_repr.specs.declared.repr.TerminalString.{TerminalString}
use Rattle.lp_repr.specs.declared.repr.TerminalString.TheVariants as terminal_string
use Rattle.lp_lower.specs.declared.names.Target.{Target}
use Rattle.lp_lower.specs.declared.names.Target.TheVariants as target_of
use Rattle.lp_syntax.specs.declared.plain.PlainGrammar.{PlainGrammar}
use Rattle.lp_syntax.specs.declared.plain.PlainKind.{PlainKind}
use Rattle.lp_syntax.specs.declared.plain.PlainKind.TheVariants as kind
use Rattle.lp_syntax.specs.declared.plain.PlainRule.{PlainRule}
use Rattle.lp_syntax.specs.declared.plain.PlainTerminal.{PlainTerminal}

-- the order by which a map keeps texts
abbrev pub text_cmp : List ℕ → List ℕ → Ordering
text_cmp = (text_ord.ghosts).cmp

-- the number of the first rule of this name
abbrev pub rule_number : List PlainRule → List ℕ → Option ℕ
rule_number rules name = position_from (λ r. same_text r.name.0 name) 0 rules

-- the number of the first of these terminals that is this one
abbrev pub terminal_number : List PlainTerminal → TerminalString → Option ℕ
terminal_number terminals terminal = position_from (λ t. same_terminal t.name terminal) 0 terminals

-- a name that is a rule's is that rule, else a bare terminal
abbrev pub name_target : Option ℕ → Option ℕ → Option Target
name_target (Some rule) terminal = Some (target_of.Rule rule)
name_target None terminal = option_map target_of.Terminal terminal

-- what a symbol stands for, none where its name is neither a rule's nor a terminal's
unfoldable pub target : PlainGrammar → PlainKind → Option Target
target g (kind.Name name) = name_target (rule_number g.rules name) (terminal_number g.conversions (terminal_string.Bare name))
target g (kind.Terminal text) = option_map target_of.Terminal (terminal_number g.conversions (terminal_string.Quoted text))
target g kind.Lookahead = Some target_of.Lookahead
target g kind.Lookbehind = Some target_of.Lookbehind
target g kind.Error = Some target_of.Error
