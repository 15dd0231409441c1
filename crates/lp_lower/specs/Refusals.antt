-- Why a plain grammar is not lowered, and where.
use Rattle.std.specs.Prelude.{ℕ, ◌+◌, nat_le, Bool, false, ◌&&◌, List, [], ◌∷◌, ◌++◌, map, filter, Option, None, Some, is_none, slice_get, if◌then◌else◌}
use Rattle.std.specs.Option.{option_map_or}
use Rattle.lp_repr.specs.Names.{same_text, same_terminal}
use Rattle.lp_repr.specs.Shown.{pattern_text}
use Rattle.lp_lower.specs.Naming.{target}
use Rattle.lp_lower.specs.Places.{least_of}
use Rattle.lp_lower.specs.Repeats.{repeats}
use Rattle.lp_lower.specs.Symbols.{symbols_in, symbols_of}
use Rattle.lp_lower.specs.declared.names.Target.{Target}
use Rattle.lp_lower.specs.declared.names.Target.TheVariants as target_of
use Rattle.lp_syntax.specs.declared.plain.PlainGrammar.{PlainGrammar}
use Rattle.lp_syntax.specs.declared.plain.PlainRule.{PlainRule}
use Rattle.lp_syntax.specs.declared.plain.PlainSymbol.{PlainSymbol}
use Rattle.lp_syntax.specs.declared.plain.PlainTerminal.{PlainTerminal}

-- the places of those of these symbols whose name is neither a rule's nor a terminal's
abbrev pub unknown_among : PlainGrammar → List PlainSymbol → List ℕ
unknown_among g symbols = map (λ s. s.place) (filter (λ s. is_none (target g s.kind)) symbols)

-- the least place of a symbol whose name is neither a rule's nor a terminal's
abbrev pub unknown_name : PlainGrammar → Option ℕ
unknown_name g = least_of (unknown_among g (symbols_of g))

-- the rule of this number is inline
abbrev pub is_inline : List PlainRule → ℕ → Bool
is_inline rules number = option_map_or (λ r. r.inline) (slice_get rules number) false

-- an inline rule from this number on
abbrev pub is_inline_from : List PlainRule → ℕ → Option Target → Bool
is_inline_from rules number None = false
is_inline_from rules number (Some (target_of.Rule used)) = nat_le number used && is_inline rules used
is_inline_from rules number (Some (target_of.Terminal used)) = false
is_inline_from rules number (Some target_of.Lookahead) = false
is_inline_from rules number (Some target_of.Lookbehind) = false
is_inline_from rules number (Some target_of.Error) = false

-- the places of those of these symbols that are such rules
abbrev pub below_among : PlainGrammar → ℕ → List PlainSymbol → List ℕ
below_among g number symbols = map (λ s. s.place) (filter (λ s. is_inline_from g.rules number (target g s.kind)) symbols)

-- the places where inline rules among these, whose numbers begin with this one, use inline rules that are not above them
abbrev pub order_places : PlainGrammar → ℕ → List PlainRule → List ℕ
order_places g number [] = []
order_places g number (r ∷ rs) = (if r.inline then below_among g number (symbols_in r) else []) ++ order_places g (number + 1) rs

-- the least place where an inline rule uses an inline rule that is not above it
abbrev pub inline_order : PlainGrammar → Option ℕ
inline_order g = least_of (order_places g 0 g.rules)

abbrev pub same_rule : PlainRule → PlainRule → Bool
same_rule a b = same_text a.name.0 b.name.0

abbrev pub same_name : PlainTerminal → PlainTerminal → Bool
same_name a b = same_terminal a.name b.name

abbrev pub same_pattern : PlainTerminal → PlainTerminal → Bool
same_pattern a b = same_text (pattern_text a.pattern) (pattern_text b.pattern)

-- the places of the rules and terminals that stand again, by their name or by the text of their pattern
abbrev pub repeated_places : PlainGrammar → List ℕ
repeated_places g = map (λ r. r.place) (repeats same_rule g.rules) ++ (map (λ t. t.place) (repeats same_name g.conversions) ++ map (λ t. t.place) (repeats same_pattern g.conversions))

-- the least place of a rule or terminal that stands again
abbrev pub duplicate : PlainGrammar → Option ℕ
duplicate g = least_of (repeated_places g)
