-- The right sides of expanded alternatives.
use Rattle.std.specs.Prelude.{ℕ, ◌++◌, nat_lt, Bool, ◌||◌, List, [], ◌∷◌, map, length, sum_by, Option, None, Some, slice_get, slice_index_or, if◌then◌else◌}
use Rattle.std.specs.List.{flat_map}
use Rattle.std.specs.Option.{option_map_or}
use Rattle.lp_repr.specs.declared.repr.Symbol.{Symbol}
use Rattle.lp_repr.specs.declared.repr.Symbol.TheVariants.{Nonterminal, Terminal}
use Rattle.lp_repr.specs.declared.repr.TerminalString.TheVariants.{Error}
use Rattle.lp_lower.specs.Choices.{choices}
use Rattle.lp_lower.specs.Naming.{target}
use Rattle.lp_lower.specs.declared.names.Target.{Target}
use Rattle.lp_lower.specs.declared.names.Target.TheVariants as target_of
use Rattle.lp_syntax.specs.declared.plain.PlainAlternative.{PlainAlternative}
use Rattle.lp_syntax.specs.declared.plain.PlainGrammar.{PlainGrammar}
use Rattle.lp_syntax.specs.declared.plain.PlainRule.{PlainRule}
use Rattle.lp_syntax.specs.declared.plain.PlainSymbol.{PlainSymbol}

-- what may stand in the place of a rule: the rule itself, or one of its right sides where it is inline
abbrev pub rule_options : PlainRule → List (List Symbol) → List (List Symbol)
rule_options r sides = (if r.inline then sides else (Nonterminal r.name ∷ []) ∷ [])

-- the terminal of this number stands for itself
abbrev pub terminal_options : PlainGrammar → ℕ → List (List Symbol)
terminal_options g n = option_map_or (λ t. (Terminal t.name ∷ []) ∷ []) (slice_get g.conversions n) []

-- what may stand in the place of a symbol, by the right sides of the inline rules so far
abbrev pub side_options : PlainGrammar → List (List (List Symbol)) → Option Target → List (List Symbol)
side_options g inlines None = []
side_options g inlines (Some (target_of.Rule n)) = option_map_or (λ r. rule_options r (slice_index_or inlines n [])) (slice_get g.rules n) []
side_options g inlines (Some (target_of.Terminal n)) = terminal_options g n
side_options g inlines (Some target_of.Lookahead) = [] ∷ []
side_options g inlines (Some target_of.Lookbehind) = [] ∷ []
side_options g inlines (Some target_of.Error) = (Terminal Error ∷ []) ∷ []

-- the right sides that symbols expand to
unfoldable pub sides_from : PlainGrammar → List (List (List Symbol)) → List PlainSymbol → List (List Symbol)
sides_from g inlines symbols = map (flat_map (λ side. side)) (choices (map (λ s. side_options g inlines (target g s.kind)) symbols))

-- those of an alternative
abbrev pub right_sides : PlainGrammar → List (List (List Symbol)) → PlainAlternative → List (List Symbol)
right_sides g inlines a = sides_from g inlines a.symbols

-- those of a rule
abbrev pub rule_sides : PlainGrammar → List (List (List Symbol)) → PlainRule → List (List Symbol)
rule_sides g inlines r = flat_map (right_sides g inlines) r.alternatives

-- those of each inline rule, which uses inline rules above it, and none of other rules
abbrev pub sides_after : PlainGrammar → List (List (List Symbol)) → List PlainRule → List (List (List Symbol))
sides_after g above [] = above
sides_after g above (r ∷ rs) = sides_after g (above ++ (if r.inline then rule_sides g above r else []) ∷ []) rs

abbrev pub inline_sides : PlainGrammar → List (List (List Symbol))
inline_sides g = sides_after g [] g.rules

-- the right sides of an expanded rule, and of its start where it is public
abbrev pub sides_with_start : PlainGrammar → PlainRule → List (List Symbol)
sides_with_start g r = rule_sides g (inline_sides g) r ++ (if r.public then (Nonterminal r.name ∷ []) ∷ [] else [])

-- more alternatives, or more symbols, than all rules may have together
abbrev pub are_too_many : List (List Symbol) → Bool
are_too_many sides = nat_lt 65536 (length sides) || nat_lt 1048576 (sum_by length sides)

-- the place of the first of these rules with which the right sides, after those before, are too many
abbrev pub too_many_after : PlainGrammar → List (List Symbol) → List PlainRule → Option ℕ
too_many_after g before [] = None
too_many_after g before (r ∷ rs) = (if are_too_many (before ++ sides_with_start g r) then Some r.place else too_many_after g (before ++ sides_with_start g r) rs)

abbrev pub too_many : PlainGrammar → Option ℕ
too_many g = too_many_after g [] g.rules
