use Rattle.std.proofs.Common.{nat_eq}
use Rattle.std.specs.BTreeMap.{values}
use Rattle.std.specs.List.{starts_with}
use Rattle.lp_repr.specs.declared.repr.NonterminalString.{NonterminalString}
use Rattle.lp_valid.specs.PrefixRules.{NonterminalsLack}
use Rattle.lp_valid.proofs.FirstFailing.{first_from_position, then_list, values_length}
use Rattle.lp_valid.proofs.apart.failing_prefix.Goals as goal

pub returns : goal.returns
returns c =
    let g = c.args.grammar.now in
    let test = λ (s : NonterminalString). starts_with nat_eq s.0 g.prefix in
    then_list test (values g.start_nonterminals) (NonterminalsLack g) c.len.result c.first_other_start-first.result c.in_ok-rest.rest c.then.result (values_length g.start_nonterminals.entries c.len.result c.len.ensures.len)
    (first_from_position test (values g.start_nonterminals) c.first_other_start-first.result c.first_other_start-first.ensures) c.in_ok-rest.ensures c.then.ensures
