-- What the calls of a code generator append.
use Rattle.std.specs.Prelude.{ℕ, Bool, is_some, Option, Some, None, List, [], ◌∷◌, ◌++◌, codes}
use Rattle.std.specs.BTreeMap.{get}
use Rattle.lp_repr.specs.NameOrder.{nonterminal_cmp}
use Rattle.lp_repr.specs.Shown.{visibility_text}
use Rattle.lp_repr.specs.ShownTypes.{type_text}
use Rattle.lp_repr.specs.declared.parse_tree.Visibility.{Visibility}
use Rattle.lp_repr.specs.declared.parse_tree.Visibility.TheVariants.{Priv}
use Rattle.lp_repr.specs.declared.repr.Grammar.{Grammar}
use Rattle.lp_repr.specs.declared.repr.NonterminalData.{NonterminalData}
use Rattle.lp_repr.specs.declared.repr.NonterminalString.{NonterminalString}
use Rattle.lp_parts.specs.Texts.{parse_error_text}
use Rattle.lp_parts.specs.Variants.{nonterminal_type}
use Rattle.lp_write.specs.Headers.{Header, header_lines}
use Rattle.lp_write.specs.Uses.{all_uses}
use Rattle.lp_codegen.specs.declared.generator.CodeGenerator.{CodeGenerator}
use Rattle.lp_codegen.specs.Modules.{inside_of, module_head, token_use}
use Rattle.lp_codegen.specs.Parsers.{parse_answer, parse_header, parser_front, token_generics, token_parameters, token_source}

-- the visibility of a nonterminal, private where it isn't declared
abbrev pub visibility_or : Visibility → Option NonterminalData → Visibility
visibility_or other None = other
visibility_or other (Some found) = found.visibility

abbrev pub visibility_in : Grammar → NonterminalString → Visibility
visibility_in g nonterminal = visibility_or Priv (get nonterminal_cmp g.nonterminals nonterminal)

-- the tokens are made by the module of tokens
abbrev pub is_interned : Grammar → Bool
is_interned g = is_some g.intern_token

-- the uses of a module, then the token use
abbrev pub uses_of : Grammar → List ℕ → List ℕ → List (List ℕ)
uses_of g action_module prefix =
    all_uses (inside_of action_module) g.prefix g.uses ++ token_use (is_interned g) action_module prefix ∷ []

-- the lines before the uses, and the uses
abbrev pub head_of : Grammar → List ℕ → List ℕ → List ℕ → List (List ℕ)
head_of g start action_module prefix = module_head prefix start ++ uses_of g action_module prefix

-- the lines of a parser before the header of its `parse` method
abbrev pub front_of : Grammar → NonterminalString → List ℕ → List ℕ → List ℕ → List (List ℕ)
front_of g start name action_module prefix =
    parser_front (is_interned g) action_module prefix (visibility_text (visibility_in g start)) name

-- what `parse` of a start nonterminal answers, and its header
abbrev pub answer_of : Grammar → NonterminalString → List ℕ
answer_of g start = parse_answer (type_text (nonterminal_type g start)) (parse_error_text g)

abbrev pub header_of : Grammar → NonterminalString → List ℕ → Bool → Header
header_of g start prefix repeatable =
    parse_header g (token_generics (is_interned g) repeatable prefix g.type_parameters) (token_parameters (is_interned g) prefix)
    (answer_of g start)

-- a parser up to the bracket of the body of its `parse` method
abbrev pub parser_of : Grammar → NonterminalString → List ℕ → List ℕ → List ℕ → Bool → List (List ℕ)
parser_of g start name action_module prefix repeatable =
    (front_of g start name action_module prefix ++ header_lines (visibility_in g start) (header_of g start prefix repeatable))
    ++ codes "{" ∷ []

-- the brackets that close a `parse` method and its parser
abbrev pub closing_lines : List (List ℕ)
closing_lines = codes "}" ∷ codes "}" ∷ []

module _ {W C : Type 0} (g : CodeGenerator W C) where
  -- the lines of `write_uses`
  abbrev pub uses_lines : List (List ℕ)
  uses_lines = uses_of g.grammar.now g.action_module.now g.prefix.now

  -- the lines of `write_parse_mod` before those of its body
  abbrev pub head_lines : List (List ℕ)
  head_lines = head_of g.grammar.now g.start_symbol.now.0 g.action_module.now g.prefix.now

  -- the lines of `start_parser_fn`
  abbrev pub parser_lines : List (List ℕ)
  parser_lines =
      parser_of g.grammar.now g.start_symbol.now g.user_start_symbol.now.0 g.action_module.now g.prefix.now g.repeatable

  -- the lines of `define_tokens`
  abbrev pub source_lines : List (List ℕ)
  source_lines = token_source (is_interned g.grammar.now) g.repeatable g.prefix.now
