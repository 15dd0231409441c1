-- Grammar files as wholes.
use Rattle.std.specs.Prelude.{List, ◌++◌, map}
use Rattle.std.specs.Option.{option_map}
use Rattle.lp_repr.specs.TypeTrees.{type_tree, clause_tree}
use Rattle.lp_syntax.specs.declared.plain.PlainGrammar.{PlainGrammar}
use Rattle.lp_types.specs.Reading.{Reading, ◌>>=◌, give, at_end}
use Rattle.lp_reading.specs.Externs.{ExternTree, extern_block, terminal_tree}
use Rattle.lp_reading.specs.Heads.{HeadTree, head, parameter_tree}
use Rattle.lp_reading.specs.Rules.{RuleTree, rules, rule_tree}

-- a grammar file: what stands before its rules, its `extern` block, and its rules in order
pub record FileTree : Type 0 where
  pub head : HeadTree
  pub block : ExternTree
  pub rules : List RuleTree

abbrev pub file_tree : HeadTree → ExternTree → List RuleTree → FileTree
file_tree head block rules = record { head = head; block = block; rules = rules }

-- a grammar file: its head, rules, the `extern` block before, between or behind them, and nothing else
unfoldable pub grammar : Reading FileTree
grammar =
    head >>= λ head. rules >>= λ before. extern_block >>= λ block. rules >>= λ behind. at_end >>= λ _.
    give (file_tree head block (before ++ behind))

-- what a plain grammar says
abbrev pub grammar_tree : PlainGrammar → FileTree
grammar_tree g = record {
  head = record {
    attributes = g.attributes;
    uses = g.uses;
    codegen = g.algorithm.codegen;
    lists = record { type_parameters = g.type_parameters; parameters = map parameter_tree g.parameters; where_clauses = map clause_tree g.where_clauses };
  };
  block = record {
    types = (option_map type_tree g.location, option_map type_tree g.error);
    tokens = record { token = type_tree g.token; conversions = map terminal_tree g.conversions };
  };
  rules = map rule_tree g.rules;
}
