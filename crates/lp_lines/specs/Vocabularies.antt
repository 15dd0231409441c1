-- What token lines of a grammar may name.
use Rattle.std.specs.Prelude.{ℕ, List, length, map, Option, is_some}
use Rattle.std.specs.Option.{option_map}
use Rattle.std.specs.BTreeMap.{get, keys}
use Rattle.lp_repr.specs.NameOrder.{terminal_cmp}
use Rattle.lp_repr.specs.Numbering.{terminals_of}
use Rattle.lp_repr.specs.Shown.{pattern_text}
use Rattle.lp_repr.specs.declared.repr.Grammar.{Grammar}
use Rattle.lp_repr.specs.declared.repr.TerminalString.{TerminalString}
use Rattle.lp_repr.specs.declared.repr.TokenPattern.{TokenPattern}
use Rattle.lp_lines.specs.declared.vocabulary.Form.{Form}
use Rattle.lp_lines.specs.declared.vocabulary.Vocabulary.{Vocabulary}

-- the public names, in key order
abbrev pub starts_of : Grammar → List (List ℕ)
starts_of g = map (λ name. name.0) (keys g.start_nonterminals)

-- what a pattern's tokens look like: its text with `_` in the holes, and the number of these
abbrev pub form_of : TokenPattern → Form
form_of pattern = record { text = pattern_text pattern; captures = length pattern.holes }

-- the form of a terminal; none for the error terminal, which has no pattern
abbrev pub form_in : Grammar → TerminalString → Option Form
form_in g terminal = option_map form_of (get terminal_cmp g.conversions terminal)

-- what token lines of the grammar may name
abbrev pub vocabulary_of : Grammar → Vocabulary
vocabulary_of g = record {
  located = is_some g.types.loc;
  starts = starts_of g;
  forms = map (form_in g) (terminals_of g);
}
