-- The lowering of a plain grammar, field by field.
use Rattle.std.specs.Prelude.{◌≡◌, ℕ, not, List, [], ◌∷◌, ◌++◌, map, filter, None, if◌then◌else◌}
use Rattle.std.specs.Option.{option_map}
use Rattle.lp_repr.specs.NameOrder.{nonterminal_cmp, terminal_cmp}
use Rattle.lp_repr.specs.TypeTrees.{TypeTree, TypeTrees, type_tree, types_trees, clause_tree}
use Rattle.lp_repr.specs.declared.repr.Grammar.{Grammar}
use Rattle.lp_repr.specs.declared.repr.NonterminalString.{NonterminalString}
use Rattle.lp_repr.specs.declared.repr.Parameter.{Parameter}
use Rattle.lp_repr.specs.declared.repr.TerminalString.{TerminalString}
use Rattle.lp_repr.specs.declared.repr.TerminalString.TheVariants.{Error}
use Rattle.lp_repr.specs.declared.repr.TokenPattern.{TokenPattern}
use Rattle.lp_repr.specs.declared.repr.TypeRepr.{TypeRepr}
use Rattle.lp_repr.specs.declared.repr.Types.{Types}
use Rattle.lp_lower.specs.ActionNumbers.{uses_error}
use Rattle.lp_lower.specs.Actions.{action_tree, actions_of}
use Rattle.lp_lower.specs.Productions.{put_all, start_name, nonterminal_entries}
use Rattle.lp_lower.specs.TypeOf.{holes_tree, recovery_tree}
use Rattle.lp_lower.specs.declared.lowering.Kept.{Kept}
use Rattle.lp_syntax.specs.declared.plain.PlainGrammar.{PlainGrammar}
use Rattle.lp_syntax.specs.declared.plain.PlainRule.{PlainRule}
use Rattle.lp_syntax.specs.declared.plain.PlainTerminal.{PlainTerminal}

-- a parameter, its type as a tree
abbrev pub parameter_tree : Parameter → List ℕ × TypeTree
parameter_tree p = (p.name, type_tree p.ty)

-- a pattern, the types of its holes as trees
abbrev pub pattern_tree : TokenPattern → List (List ℕ) × TypeTrees
pattern_tree p = (p.pieces, types_trees p.holes)

-- the public rules, and those that are nonterminals
abbrev pub public_rules : PlainGrammar → List PlainRule
public_rules g = filter (λ r. r.public) g.rules

abbrev pub kept_rules : PlainGrammar → List PlainRule
kept_rules g = filter (λ r. not r.inline) g.rules

-- a public rule with its start
abbrev pub public_name : PlainGrammar → PlainRule → NonterminalString × NonterminalString
public_name g r = (r.name, start_name g r)

abbrev pub public_names : PlainGrammar → List (NonterminalString × NonterminalString)
public_names g = map (public_name g) (public_rules g)

-- a terminal with its pattern
abbrev pub named_pattern : PlainTerminal → TerminalString × (List (List ℕ) × TypeTrees)
named_pattern t = (t.name, pattern_tree t.pattern)

abbrev pub named_patterns : PlainGrammar → List (TerminalString × (List (List ℕ) × TypeTrees))
named_patterns g = map named_pattern g.conversions

-- the error terminal last where it is used
abbrev pub terminal_names : PlainGrammar → List TerminalString
terminal_names g = map (λ t. t.name) g.conversions ++ (if uses_error g then Error ∷ [] else [])

-- a terminal, a start and a rule with their types
abbrev pub declared_type : PlainGrammar → PlainTerminal → TerminalString × TypeTree
declared_type g t = (t.name, holes_tree g.token t.pattern.holes)

abbrev pub start_type : PlainGrammar → PlainRule → NonterminalString × TypeTree
start_type g r = (start_name g r, type_tree r.ty)

abbrev pub kept_type : PlainRule → NonterminalString × TypeTree
kept_type r = (r.name, type_tree r.ty)

abbrev pub terminal_types : PlainGrammar → List (TerminalString × TypeTree)
terminal_types g = map (declared_type g) g.conversions ++ (if uses_error g then (Error, recovery_tree g) ∷ [] else [])

abbrev pub nonterminal_types : PlainGrammar → List (NonterminalString × TypeTree)
nonterminal_types g = map (start_type g) (public_rules g) ++ map kept_type (kept_rules g)

-- an entry, its type or its pattern as a tree
abbrev pub type_entry : {K : Type 0} → K × TypeRepr → K × TypeTree
type_entry e = (e.0, type_tree e.1)

abbrev pub pattern_entry : TerminalString × TokenPattern → TerminalString × (List (List ℕ) × TypeTrees)
pattern_entry e = (e.0, pattern_tree e.1)

-- types are compared as trees, without the pointers to their parts
pub record IsTyping (g : PlainGrammar) (t : Types) : Type 0 where
  pub location : option_map type_tree t.loc ≡ option_map type_tree g.location
  pub token : type_tree t.token ≡ type_tree g.token
  pub error : option_map type_tree t.error ≡ option_map type_tree g.error
  pub terminals : map type_entry t.terminals.entries ≡ put_all terminal_cmp [] (terminal_types g)
  pub nonterminals : map type_entry t.nonterminals.entries ≡ put_all nonterminal_cmp [] (nonterminal_types g)

-- the lists that are taken over as they are
pub record IsKept (g : PlainGrammar) (k : Kept) : Type 0 where
  pub uses : k.uses ≡ g.uses
  pub type_parameters : k.type_parameters ≡ g.type_parameters
  pub parameters : map parameter_tree k.parameters ≡ map parameter_tree g.parameters
  pub where_clauses : map clause_tree k.where_clauses ≡ map clause_tree g.where_clauses
  pub attributes : k.attributes ≡ g.attributes

pub record IsLowering (g : PlainGrammar) (l : Grammar) : Type 0 where
  pub prefix : l.prefix ≡ g.prefix
  pub algorithm : l.algorithm ≡ g.algorithm
  pub uses_error_recovery : l.uses_error_recovery ≡ uses_error g
  pub start_nonterminals : l.start_nonterminals.entries ≡ put_all nonterminal_cmp [] (public_names g)
  pub uses : l.uses ≡ g.uses
  pub type_parameters : l.type_parameters ≡ g.type_parameters
  pub parameters : map parameter_tree l.parameters ≡ map parameter_tree g.parameters
  pub where_clauses : map clause_tree l.where_clauses ≡ map clause_tree g.where_clauses
  pub intern_token : l.intern_token ≡ None
  pub actions : map action_tree l.action_fn_defns ≡ actions_of g
  pub terminals : l.terminals.all ≡ terminal_names g
  pub nonterminals : l.nonterminals.entries ≡ put_all nonterminal_cmp [] (nonterminal_entries g)
  pub conversions : map pattern_entry l.conversions.entries ≡ put_all terminal_cmp [] (named_patterns g)
  pub types : IsTyping g l.types
  pub attributes : l.module_attributes ≡ g.attributes
