use Rattle.std.proofs.Common.{◌≡◌, ℕ, List, ap, sym, ◌∙◌, length, map, arith}
use Rattle.std.proofs.lemmas.List.{length-map}
use Rattle.std.specs.Map.Iter.{deref}
use Rattle.lp_repr.specs.Numbering.{nonterminal_number, terminal_number}
use Rattle.lp_repr.specs.ShownTypes.{type_text}
use Rattle.lp_repr.specs.declared.repr.Grammar.{Grammar}
use Rattle.lp_parts.specs.StateType.{state_type_of}
use Rattle.lp_parts.specs.Texts.{spanned_symbol_of, symbol_text}
use Rattle.lp_table.specs.Pieces.{spanned_symbol_text}
use Rattle.lp_table.proofs.shared.Shared.new.Goals as goal

pub invariant_of-result : goal.invariant_of-result
unfolding spanned_symbol_text
invariant_of-result c =
    let grammar = c.args.grammar.now in
    let productions = c.in_ok-productions.productions.items in
    let count : c.len.result ≡ length productions = omega (arith, c.len.ensures, c.in_ok-productions.productions.ok.0) in
    record {
      state_type_fits = c.state_type.ensures
          ∙ ap (λ (n : ℕ). state_type_of (length c.args.states.now) n) (count ∙ (sym (length-map productions deref) ∙ ap length c.in_ok-productions.ensures));
      location_shown = c.in_ok-types.ensures.location;
      token_shown = c.in_ok-types.ensures.token;
      error_shown = c.in_ok-types.ensures.error;
      parse_error_shown = c.in_ok-types.ensures.parse_error;
      triple_shown = c.in_ok-types.ensures.triple;
      symbol_parameters_kept = c.in_ok-symbols.ensures.type_parameters;
      symbol_parameters_shown = c.in_ok-symbols.ensures.parameters;
      symbol_clauses_shown = c.in_ok-symbols.ensures.clauses;
      symbol_shown = c.in_ok-symbols.ensures.symbol;
      spanned_symbol_shown = c.in_ok-symbols.ensures.spanned_symbol
          ∙ ap (λ (l : List ℕ). spanned_symbol_of l (symbol_text grammar)) (c.as_str.ensures.value ∙ c.in_ok-types.ensures.location);
      generics_shown = c.in_ok-parameters.ensures.type_parameters;
      generic_names_shown = c.in_ok-parameters.ensures.generic_names;
      arguments_shown = c.in_ok-parameters.ensures.arguments;
      phantom_type_shown = c.in_ok-parameters.ensures.phantom_type;
      phantom_shown = c.in_ok-parameters.ensures.phantom_expression;
      nonterminals_numbered = λ q. ap (λ (g : Grammar). nonterminal_number g q) c.in_ok-numbers.ensures;
      terminals_numbered = λ t. ap (λ (g : Grammar). terminal_number g t) c.in_ok-numbers.ensures;
      productions_listed = c.in_ok-productions.ensures;
      variants_shown = ap (map type_text) c.in_ok-variants.ensures.types;
      terminals_varied = c.in_ok-variants.ensures.terminals;
      nonterminals_varied = c.in_ok-variants.ensures.nonterminals;
    }
