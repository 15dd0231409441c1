-- The types of symbols, as trees.
use Rattle.std.specs.Prelude.{ℕ, false, List, [], ◌∷◌, ◌++◌, Option, None, Some, codes, slice_get}
use Rattle.std.specs.Option.{option_map_or}
use Rattle.lp_repr.specs.TypeTrees.{TypeTree, tuple_type, nominal_type, reference_type, end, more, type_tree, types_trees}
use Rattle.lp_repr.specs.declared.parse_tree.Path.{Path}
use Rattle.lp_repr.specs.declared.repr.TypeRepr.{TypeRepr}
use Rattle.lp_lower.specs.declared.names.Target.{Target}
use Rattle.lp_lower.specs.declared.names.Target.TheVariants as target_of
use Rattle.lp_syntax.specs.declared.plain.PlainGrammar.{PlainGrammar}

-- a path that is not absolute
abbrev pub path_of : List (List ℕ) → Path
path_of names = record { absolute = false; ids = names }

-- locations, `()` by default
abbrev pub location_tree : PlainGrammar → TypeTree
location_tree g = option_map_or type_tree g.location (tuple_type end)

-- `&'static str`
abbrev pub static_str_tree : TypeTree
static_str_tree = reference_type (Some (codes "'static")) false (nominal_type (path_of (codes "str" ∷ [])) end)

-- errors, `&'static str` by default
abbrev pub error_tree : PlainGrammar → TypeTree
error_tree g = option_map_or type_tree g.error static_str_tree

-- the error terminal: `~lalrpop_util::ErrorRecovery<L, T, E>`
abbrev pub recovery_tree : PlainGrammar → TypeTree
recovery_tree g = nominal_type (path_of ((g.prefix ++ codes "lalrpop_util") ∷ codes "ErrorRecovery" ∷ [])) (more (location_tree g) (more (type_tree g.token) (more (error_tree g) end)))

-- what a pattern with these holes gives: the token, the one capture, or the tuple of the captures
abbrev pub holes_tree : TypeRepr → List TypeRepr → TypeTree
holes_tree token [] = type_tree token
holes_tree token (hole ∷ []) = type_tree hole
holes_tree token (first ∷ (second ∷ rest)) = tuple_type (types_trees (first ∷ second ∷ rest))

-- the rule, and the terminal, of this number
abbrev pub rule_tree : PlainGrammar → ℕ → TypeTree
rule_tree g n = option_map_or (λ r. type_tree r.ty) (slice_get g.rules n) (type_tree g.token)

abbrev pub terminal_tree : PlainGrammar → ℕ → TypeTree
terminal_tree g n = option_map_or (λ t. holes_tree g.token t.pattern.holes) (slice_get g.conversions n) (type_tree g.token)

-- what a symbol stands for
abbrev pub target_tree : PlainGrammar → Option Target → TypeTree
target_tree g None = type_tree g.token
target_tree g (Some (target_of.Rule n)) = rule_tree g n
target_tree g (Some (target_of.Terminal n)) = terminal_tree g n
target_tree g (Some target_of.Lookahead) = location_tree g
target_tree g (Some target_of.Lookbehind) = location_tree g
target_tree g (Some target_of.Error) = recovery_tree g
