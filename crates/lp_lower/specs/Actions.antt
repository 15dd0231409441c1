-- The actions of the lowered grammar, their types as trees.
use Rattle.std.specs.Prelude.{ℕ, ◌+◌, Bool, false, List, [], ◌∷◌, ◌++◌, map, filter, codes, if◌then◌else◌}
use Rattle.lp_repr.specs.TypeTrees.{TypeTree, type_tree}
use Rattle.lp_repr.specs.declared.repr.ActionFnDefn.{ActionFnDefn}
use Rattle.lp_repr.specs.declared.repr.ActionFnDefnKind.{ActionFnDefnKind}
use Rattle.lp_repr.specs.declared.repr.ActionFnDefnKind.TheVariants as kind
use Rattle.lp_repr.specs.declared.repr.InlinedSymbol.{InlinedSymbol}
use Rattle.lp_repr.specs.declared.repr.LookaroundActionFn.{LookaroundActionFn}
use Rattle.lp_repr.specs.declared.repr.LookaroundActionFn.TheVariants.{Lookahead, Lookbehind}
use Rattle.lp_lower.specs.ActionNumbers.{uses_lookahead, uses_lookbehind, first_action, is_replaced, action_count, actions_in}
use Rattle.lp_lower.specs.Expansion.{all_sources, combined}
use Rattle.lp_lower.specs.Naming.{target}
use Rattle.lp_lower.specs.TypeOf.{location_tree, target_tree}
use Rattle.lp_lower.specs.declared.combine.Combination.{Combination}
use Rattle.lp_lower.specs.declared.expand.Sources.{Sources}
use Rattle.lp_syntax.specs.declared.plain.PlainAlternative.{PlainAlternative}
use Rattle.lp_syntax.specs.declared.plain.PlainGrammar.{PlainGrammar}
use Rattle.lp_syntax.specs.declared.plain.PlainRule.{PlainRule}

-- what an action does
pub data KindTree : Type 0 where
  user_code : List (List ℕ) → List TypeTree → List ℕ → KindTree
  lookaround : LookaroundActionFn → KindTree
  inline : ℕ → List InlinedSymbol → KindTree

abbrev pub kind_tree : ActionFnDefnKind → KindTree
kind_tree (kind.User patterns types code) = user_code patterns (map type_tree types) code
kind_tree (kind.Lookaround which) = lookaround which
kind_tree (kind.Inline action symbols) = inline action symbols

-- an action
pub record ActionTree : Type 0 where
  pub fallible : Bool
  pub gives : TypeTree
  pub does : KindTree

abbrev pub action_tree : ActionFnDefn → ActionTree
action_tree a = record { fallible = a.fallible; gives = type_tree a.ret_type; does = kind_tree a.kind }

-- the start of a public rule: argument and code are the prefix and `0`
abbrev pub start_action : PlainGrammar → PlainRule → ActionTree
start_action g r = record { fallible = false; gives = type_tree r.ty; does = user_code ((g.prefix ++ codes "0") ∷ []) (type_tree r.ty ∷ []) (g.prefix ++ codes "0") }

-- a lookaround
abbrev pub lookaround_action : PlainGrammar → LookaroundActionFn → ActionTree
lookaround_action g which = record { fallible = false; gives = location_tree g; does = lookaround which }

-- where it is used
abbrev pub lookaround_actions : PlainGrammar → LookaroundActionFn → Bool → List ActionTree
lookaround_actions g which used = (if used then lookaround_action g which ∷ [] else [])

-- the user action of an alternative
abbrev pub user_action : PlainGrammar → PlainRule → PlainAlternative → ActionTree
user_action g r a = record { fallible = a.fallible; gives = type_tree r.ty; does = user_code (map (λ s. s.name) a.symbols) (map (λ s. target_tree g (target g s.kind)) a.symbols) a.code }

-- the inline of a combination, over the user action of this number
abbrev pub inline_action : PlainRule → ℕ → Combination → ActionTree
inline_action r user c = record { fallible = c.fallible; gives = type_tree r.ty; does = inline user c.inlined }

-- an alternative's actions: its user action, and then an inline per combination where something is replaced
abbrev pub alternative_actions : PlainGrammar → Sources → PlainRule → ℕ → PlainAlternative → List ActionTree
alternative_actions g s r user a = user_action g r a ∷ (if is_replaced g a then map (inline_action r user) (combined g s a) else [])

-- those of these alternatives of a rule, the first of which has this number
abbrev pub rule_actions : PlainGrammar → Sources → PlainRule → ℕ → List PlainAlternative → List ActionTree
rule_actions g s r first [] = []
rule_actions g s r first (a ∷ rest) = alternative_actions g s r first a ++ rule_actions g s r (first + action_count g a) rest

-- those of these rules
abbrev pub actions_from : PlainGrammar → Sources → ℕ → List PlainRule → List ActionTree
actions_from g s first [] = []
actions_from g s first (r ∷ rs) = rule_actions g s r first r.alternatives ++ actions_from g s (first + actions_in g r.alternatives) rs

-- the actions in their order: per public rule the start's, then lookahead and lookbehind where they are used, then the rules'
abbrev pub actions_of : PlainGrammar → List ActionTree
actions_of g = map (start_action g) (filter (λ r. r.public) g.rules) ++ (lookaround_actions g Lookahead (uses_lookahead g) ++ (lookaround_actions g Lookbehind (uses_lookbehind g) ++ actions_from g (all_sources g) (first_action g) g.rules))
