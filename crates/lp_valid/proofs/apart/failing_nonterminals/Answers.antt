use Rattle.lp_repr.specs.Numbering.{nonterminals_of}
use Rattle.lp_valid.specs.PrefixRules.{lacks_or_starts, ParametersLack}
use Rattle.lp_valid.proofs.FirstFailing.{first_from_position, keys_length, then_list}
use Rattle.lp_valid.proofs.apart.failing_nonterminals.Goals as goal

pub returns : goal.returns
returns c =
    let g = c.args.grammar.now in
    then_list (lacks_or_starts g) (nonterminals_of g) (ParametersLack g) c.len.result c.first_other_nonterminal-first.result c.in_ok-rest.rest c.then.result (keys_length g.nonterminals.entries c.len.result c.len.ensures.len)
    (first_from_position (lacks_or_starts g) (nonterminals_of g) c.first_other_nonterminal-first.result c.first_other_nonterminal-first.ensures) c.in_ok-rest.ensures c.then.ensures
