use Rattle.std.proofs.Common.{map, sym, ap, ◌∙◌}
use Rattle.std.specs.Map.Iter.{deref}
use Rattle.std.specs.List.{position_from}
use Rattle.std.specs.Ordering.{eq_by_cmp}
use Rattle.lp_repr.specs.NameOrder.{nonterminal_cmp, terminal_cmp}
use Rattle.lp_repr.specs.Names.{same_nonterminal, same_terminal}
use Rattle.lp_repr.specs.Numbering.{nonterminals_of, terminals_of}
use Rattle.lp_repr.proofs.Numbers.{nonterminal_ties, terminal_ties, same_position}
use Rattle.lp_repr.proofs.numbering.Numbers.new.Goals as goal

pub invariant_of-result : goal.invariant_of-result
invariant_of-result c =
    let grammar = c.args.grammar.now in
    let e = ap (map deref) c.as_slice.ensures.value ∙ c.in_ok-nonterminals.ensures in
    let f = ap (map deref) c.as_slice-2.ensures.value ∙ c.in_ok-terminals.ensures in
    record {
      nonterminals_numbered = λ q. c.in_ok-by_name.ensures q ∙ ap (position_from (eq_by_cmp nonterminal_cmp q) 0) e ∙ sym (same_position (same_nonterminal q) (eq_by_cmp nonterminal_cmp q) (nonterminal_ties q) 0 (nonterminals_of grammar));
      terminals_numbered = λ q. c.in_ok-by_name-2.ensures q ∙ ap (position_from (eq_by_cmp terminal_cmp q) 0) f ∙ sym (same_position (same_terminal q) (eq_by_cmp terminal_cmp q) (terminal_ties q) 0 (terminals_of grammar));
    }
