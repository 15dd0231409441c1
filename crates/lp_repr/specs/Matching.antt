-- Tokens and the terminals that they match.
use Rattle.std.specs.Prelude.{◌≡◌, ℕ, Bool, false, Option, Some, None}
use Rattle.std.specs.List.{position_from}
use Rattle.std.specs.BTreeMap.{get}
use Rattle.lp_repr.specs.Names.{same_text}
use Rattle.lp_repr.specs.NameOrder.{terminal_cmp}
use Rattle.lp_repr.specs.Numbering.{terminals_of}
use Rattle.lp_repr.specs.Shown.{pattern_text}
use Rattle.lp_repr.specs.declared.repr.Grammar.{Grammar}
use Rattle.lp_repr.specs.declared.repr.TokenPattern.{TokenPattern}
use Rattle.lp_repr.specs.declared.values.TokenValue.{TokenValue}

-- a token matches a pattern: its form is the pattern's text with `_` in the holes
abbrev pub Matches : TokenPattern → TokenValue → Type 0
Matches pattern token = token.form ≡ pattern_text pattern

-- the same as a test
abbrev pub is_match : TokenPattern → TokenValue → Bool
is_match pattern token = same_text token.form (pattern_text pattern)

-- a token matches the pattern of a terminal, where it has one
abbrev pub is_match_of : Option TokenPattern → TokenValue → Bool
is_match_of None token = false
is_match_of (Some pattern) token = is_match pattern token

-- the number of the first terminal whose pattern a token matches
abbrev pub matched_number : Grammar → TokenValue → Option ℕ
matched_number g token = position_from (λ terminal. is_match_of (get terminal_cmp g.conversions terminal) token) 0 (terminals_of g)
