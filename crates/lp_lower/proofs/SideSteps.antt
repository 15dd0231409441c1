-- Right sides, one symbol or one rule after the other.
use Rattle.std.proofs.Common.{◌≡◌, ℕ, ◌+◌, ◌<◌, Bool, cond, List, [], ◌∷◌, ◌++◌, length, map, drop, Some, refl, ap, ◌∙◌}
use Rattle.std.proofs.Math.ListN.{get_or}
use Rattle.std.specs.List.{flat_map}
use Rattle.std.proofs.lemmas.List.{map-append, drop_more}
use Rattle.lp_repr.specs.declared.repr.Symbol.{Symbol}
use Rattle.lp_lower.specs.Choices.{choices}
use Rattle.lp_lower.specs.Extents.{joined}
use Rattle.lp_lower.specs.Naming.{target}
use Rattle.lp_lower.specs.RightSides.{side_options, sides_from, rule_sides, sides_after, sides_with_start, are_too_many, too_many_after}
use Rattle.lp_syntax.specs.declared.plain.PlainGrammar.{PlainGrammar}
use Rattle.lp_syntax.specs.declared.plain.PlainRule.{PlainRule}
use Rattle.lp_syntax.specs.declared.plain.PlainSymbol.{PlainSymbol}

abbrev flat : List (List Symbol) → List Symbol
flat sides = flat_map (λ side. side) sides

flat-each : (x : List Symbol) (css : List (List (List Symbol))) → map flat (map (λ cs. x ∷ cs) css) ≡ map (λ b. x ++ b) (map flat css)
flat-each x [] = refl
flat-each x (cs ∷ css) = ap (λ l. (x ++ flat cs) ∷ l) (flat-each x css)

flat-choices : (options : List (List Symbol)) (css : List (List (List Symbol))) → map flat (flat_map (λ x. map (λ cs. x ∷ cs) css) options) ≡ joined options (map flat css)
flat-choices [] css = refl
flat-choices (x ∷ xs) css =
    map-append flat (map (λ cs. x ∷ cs) css) (flat_map (λ y. map (λ cs. y ∷ cs) css) xs)
    ∙ (ap (λ l. l ++ map flat (flat_map (λ y. map (λ cs. y ∷ cs) css) xs)) (flat-each x css)
    ∙ ap (λ l. map (λ b. x ++ b) (map flat css) ++ l) (flat-choices xs css))

-- one more symbol, before those whose right sides are known
pub sides_from-cons : (g : PlainGrammar) (inlines : List (List (List Symbol))) (s : PlainSymbol) (ss : List PlainSymbol) → sides_from g inlines (s ∷ ss) ≡ joined (side_options g inlines (target g s.kind)) (sides_from g inlines ss)
unfolding sides_from
sides_from-cons g inlines s ss = flat-choices (side_options g inlines (target g s.kind)) (choices (map (λ x. side_options g inlines (target g x.kind)) ss))

pub sides_from-nil : (g : PlainGrammar) (inlines : List (List (List Symbol))) → sides_from g inlines [] ≡ [] ∷ []
unfolding sides_from
sides_from-nil g inlines = refl

-- right sides of one more rule
pub sides_step : (g : PlainGrammar) (above : List (List (List Symbol))) (rules : List PlainRule) (i : ℕ) (r : PlainRule) → i < length rules → get_or rules i r ≡ r → sides_after g above (drop i rules) ≡ sides_after g (above ++ cond r.inline (rule_sides g above r) [] ∷ []) (drop (i + 1) rules)
sides_step g above rules i r h at = ap (sides_after g above) (drop_more rules i r h ∙ ap (λ y. y ∷ drop (i + 1) rules) at)

-- whether one more rule is too much
pub too_many_step : (g : PlainGrammar) (before : List (List Symbol)) (rules : List PlainRule) (i : ℕ) (r : PlainRule) → i < length rules → get_or rules i r ≡ r → (b : Bool) → are_too_many (before ++ sides_with_start g r) ≡ b → too_many_after g before (drop i rules) ≡ cond b (Some r.place) (too_many_after g (before ++ sides_with_start g r) (drop (i + 1) rules))
too_many_step g before rules i r h at b e =
    ap (too_many_after g before) (drop_more rules i r h ∙ ap (λ y. y ∷ drop (i + 1) rules) at)
    ∙ ap (λ c. cond c (Some r.place) (too_many_after g (before ++ sides_with_start g r) (drop (i + 1) rules))) e
