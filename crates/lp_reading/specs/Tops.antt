-- What a text is read as.
use Rattle.std.specs.Prelude.{ℕ, Bool, false, List, codes, map}
use Rattle.lp_repr.specs.TypeTrees.{TypeTree, ClauseTree, type_tree, clause_tree}
use Rattle.lp_tok.specs.declared.tok.Tok.{Tok}
use Rattle.lp_tok.specs.declared.tok.Tok.TheVariants.{StartPattern, StartTypeRef, StartGrammarWhereClauses, Where}
use Rattle.lp_types.specs.Reading.{Reading, ◌>>=◌, give, expected, at_end}
use Rattle.lp_types.specs.Types.{full_type}
use Rattle.lp_types.specs.Clauses.{clauses}
use Rattle.lp_reading.specs.declared.top.Top.{Top}
use Rattle.lp_reading.specs.declared.top.Top.TheVariants as top
use Rattle.lp_reading.specs.declared.top.Wanted.{Wanted}
use Rattle.lp_reading.specs.declared.top.Wanted.TheVariants as want
use Rattle.lp_reading.specs.Grammars.{FileTree, grammar, grammar_tree}
use Rattle.lp_reading.specs.Patterns.{Pattern, pattern_of, token_pattern}

-- a grammar file with its prefix and whether it asks for LALR, a pattern, a type, or `where` with its clauses
pub data TopTree : Type 0 where
  File : List ℕ → Bool → FileTree → TopTree
  PatternText : Pattern → TopTree
  TypeText : TypeTree → TopTree
  Clauses : List ClauseTree → TopTree

abbrev pub top_tree : Top → TopTree
top_tree (top.Grammar g) = File g.prefix g.algorithm.lalr (grammar_tree g)
top_tree (top.Pattern p) = PatternText (pattern_of p)
top_tree (top.TypeRef t) = TypeText (type_tree t)
top_tree (top.GrammarWhereClauses c) = Clauses (map clause_tree c.items)

-- what the first token asks for
abbrev pub wanted : Tok → Wanted
wanted StartPattern = want.Pattern
wanted StartTypeRef = want.TypeRef
wanted StartGrammarWhereClauses = want.Clauses
wanted first = want.File

-- that, and nothing else; the prefix of a grammar is `__`, and it doesn't ask for LALR
unfoldable pub top_by : Wanted → Reading TopTree
top_by want.Pattern = token_pattern >>= λ p. at_end >>= λ _. give (PatternText p)
top_by want.TypeRef = full_type >>= λ t. at_end >>= λ _. give (TypeText t)
top_by want.Clauses = expected Where >>= λ _. clauses >>= λ c. at_end >>= λ _. give (Clauses c)
top_by want.File = grammar >>= λ g. give (File (codes "__") false g)
