-- How alternatives are expanded.
use Rattle.std.specs.Prelude.{ℕ, ◌+◌, false, List, [], ◌∷◌, ◌++◌, map, Option, None, Some, slice_get, slice_index_or, if◌then◌else◌}
use Rattle.std.specs.Option.{option_map_or}
use Rattle.lp_repr.specs.declared.repr.Symbol.TheVariants.{Nonterminal, Terminal}
use Rattle.lp_repr.specs.declared.repr.TerminalString.TheVariants.{Error}
use Rattle.lp_lower.specs.ActionNumbers.{lookahead_action, lookbehind_action, first_action, is_replaced, action_count, actions_in}
use Rattle.lp_lower.specs.Choices.{choices}
use Rattle.lp_lower.specs.Naming.{target}
use Rattle.lp_lower.specs.Pieces.{Piece, itself, chosen, combination_of}
use Rattle.lp_lower.specs.declared.combine.Combination.{Combination}
use Rattle.lp_lower.specs.declared.combine.Expanded.{Expanded}
use Rattle.lp_lower.specs.declared.expand.Sources.{Sources}
use Rattle.lp_lower.specs.declared.names.Target.{Target}
use Rattle.lp_lower.specs.declared.names.Target.TheVariants as target_of
use Rattle.lp_syntax.specs.declared.plain.PlainAlternative.{PlainAlternative}
use Rattle.lp_syntax.specs.declared.plain.PlainGrammar.{PlainGrammar}
use Rattle.lp_syntax.specs.declared.plain.PlainRule.{PlainRule}

-- an expanded alternative without symbols that cannot fail, as lookarounds are
abbrev pub lookaround : ℕ → Expanded
lookaround action = record { action = action; fallible = false; symbols = [] }

-- the sources of what is replaced, with these expanded alternatives of the inline rules
abbrev pub sources_of : PlainGrammar → List (List Expanded) → Sources
sources_of g inlines = record { lookahead = lookaround (lookahead_action g) ∷ []; lookbehind = lookaround (lookbehind_action g) ∷ []; inlines = inlines }

-- what may stand in the place of a rule: the rule itself, or one of its expanded alternatives where it is inline
abbrev pub rule_pieces : PlainRule → List Expanded → List Piece
rule_pieces r expanded = (if r.inline then map chosen expanded else itself (Nonterminal r.name) ∷ [])

-- the terminal of this number stands for itself
abbrev pub terminal_pieces : PlainGrammar → ℕ → List Piece
terminal_pieces g n = option_map_or (λ t. itself (Terminal t.name) ∷ []) (slice_get g.conversions n) []

-- what may stand in the place of a symbol
abbrev pub options : PlainGrammar → Sources → Option Target → List Piece
options g s None = []
options g s (Some (target_of.Rule n)) = option_map_or (λ r. rule_pieces r (slice_index_or s.inlines n [])) (slice_get g.rules n) []
options g s (Some (target_of.Terminal n)) = terminal_pieces g n
options g s (Some target_of.Lookahead) = map chosen s.lookahead
options g s (Some target_of.Lookbehind) = map chosen s.lookbehind
options g s (Some target_of.Error) = itself (Terminal Error) ∷ []

-- the combinations of an alternative
unfoldable pub combined : PlainGrammar → Sources → PlainAlternative → List Combination
combined g s a = map (combination_of a.fallible) (choices (map (λ x. options g s (target g x.kind)) a.symbols))

-- these combinations as expanded alternatives, whose actions begin with this number
abbrev pub expanded_from : ℕ → List Combination → List Expanded
expanded_from n [] = []
expanded_from n (c ∷ cs) = record { action = n; fallible = c.fallible; symbols = c.symbols } ∷ expanded_from (n + 1) cs

-- an alternative whose user action has this number: an inline per combination where something is replaced, else the user action itself
abbrev pub expanded : PlainGrammar → Sources → ℕ → PlainAlternative → List Expanded
expanded g s user a = expanded_from (user + (if is_replaced g a then 1 else 0)) (combined g s a)

-- these alternatives, whose actions begin with this number
abbrev pub expanded_all : PlainGrammar → Sources → ℕ → List PlainAlternative → List Expanded
expanded_all g s first [] = []
expanded_all g s first (a ∷ rest) = expanded g s first a ++ expanded_all g s (first + action_count g a) rest

-- those of each inline rule, which uses inline rules above it, and none of other rules
abbrev pub inlines_after : PlainGrammar → List (List Expanded) → ℕ → List PlainRule → List (List Expanded)
inlines_after g above first [] = above
inlines_after g above first (r ∷ rs) = inlines_after g (above ++ (if r.inline then expanded_all g (sources_of g above) first r.alternatives else []) ∷ []) (first + actions_in g r.alternatives) rs

-- what is replaced, and by what
abbrev pub all_sources : PlainGrammar → Sources
all_sources g = sources_of g (inlines_after g [] (first_action g) g.rules)
