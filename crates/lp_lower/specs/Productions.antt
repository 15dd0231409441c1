-- The nonterminals of the lowered grammar, with their productions.
use Rattle.std.specs.Prelude.{ℕ, ◌+◌, List, [], ◌∷◌, ◌++◌, map, None, if◌then◌else◌}
use Rattle.std.specs.declared.cmp.Ordering.{Ordering}
use Rattle.std.specs.BTreeMap.{insert_entry}
use Rattle.lp_repr.specs.declared.parse_tree.Visibility.{Visibility}
use Rattle.lp_repr.specs.declared.parse_tree.Visibility.TheVariants.{Priv, Pub}
use Rattle.lp_repr.specs.declared.repr.NonterminalData.{NonterminalData}
use Rattle.lp_repr.specs.declared.repr.NonterminalString.{NonterminalString}
use Rattle.lp_repr.specs.declared.repr.Production.{Production}
use Rattle.lp_repr.specs.declared.repr.Symbol.TheVariants.{Nonterminal}
use Rattle.lp_lower.specs.ActionNumbers.{first_action, actions_in}
use Rattle.lp_lower.specs.Expansion.{all_sources, expanded_all}
use Rattle.lp_lower.specs.declared.combine.Expanded.{Expanded}
use Rattle.lp_lower.specs.declared.expand.Sources.{Sources}
use Rattle.lp_syntax.specs.declared.plain.PlainGrammar.{PlainGrammar}
use Rattle.lp_syntax.specs.declared.plain.PlainRule.{PlainRule}

-- the entries of a map after these were put into it in their order, a later one of the same key in the place of an earlier one
abbrev pub put_all : {K X : Type 0} → (K → K → Ordering) → List (K × X) → List (K × X) → List (K × X)
put_all cmp entries [] = entries
put_all cmp entries (e ∷ rest) = put_all cmp (insert_entry cmp entries e.0 e.1) rest

-- the start of a rule: the prefix and the name
abbrev pub start_name : PlainGrammar → PlainRule → NonterminalString
start_name g r = record { 0 = g.prefix ++ r.name.0 }

abbrev pub visibility_of : PlainRule → Visibility
visibility_of r = (if r.public then Pub None else Priv)

-- the one production of a start, whose action has this number
abbrev pub start_data : PlainGrammar → ℕ → PlainRule → NonterminalData
start_data g action r = record { visibility = visibility_of r; productions = record { nonterminal = start_name g r; symbols = Nonterminal r.name ∷ []; action = action } ∷ [] }

-- the start of a public rule, whose action has this number
abbrev pub start_entry : PlainGrammar → ℕ → PlainRule → List (NonterminalString × NonterminalData)
start_entry g action r = (if r.public then (start_name g r, start_data g action r) ∷ [] else [])

-- the starts of the public rules among these, the first of which has this action
abbrev pub start_entries : PlainGrammar → ℕ → List PlainRule → List (NonterminalString × NonterminalData)
start_entries g action [] = []
start_entries g action (r ∷ rs) = start_entry g action r ++ start_entries g (action + (if r.public then 1 else 0)) rs

-- the production of an expanded alternative
abbrev pub production_of : NonterminalString → Expanded → Production
production_of name e = record { nonterminal = name; symbols = e.symbols; action = e.action }

-- a rule whose actions begin with this number
abbrev pub rule_data : PlainGrammar → Sources → ℕ → PlainRule → NonterminalData
rule_data g s first r = record { visibility = visibility_of r; productions = map (production_of r.name) (expanded_all g s first r.alternatives) }

-- a rule that is not inline
abbrev pub rule_entry : PlainGrammar → Sources → ℕ → PlainRule → List (NonterminalString × NonterminalData)
rule_entry g s first r = (if r.inline then [] else (r.name, rule_data g s first r) ∷ [])

-- those of these rules
abbrev pub rule_entries : PlainGrammar → Sources → ℕ → List PlainRule → List (NonterminalString × NonterminalData)
rule_entries g s first [] = []
rule_entries g s first (r ∷ rs) = rule_entry g s first r ++ rule_entries g s (first + actions_in g r.alternatives) rs

-- the starts, and then the rules that are not inline
abbrev pub nonterminal_entries : PlainGrammar → List (NonterminalString × NonterminalData)
nonterminal_entries g = start_entries g 0 g.rules ++ rule_entries g (all_sources g) (first_action g) g.rules
