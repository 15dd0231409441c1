use Rattle.std.proofs.Common.{sym, subst}
use Rattle.lp_repr.specs.Numbering.{rules_of}
use Rattle.lp_tables.specs.Numbers.{IsIndex}
use Rattle.lp_tables.proofs.Index.{is_index}
use Rattle.lp_tables.proofs.rules.Rules.new.Goals as goal

pub returns : goal.returns
returns c =
    let g = c.args.grammar.now in
    let all = c.in_ok-rules.ensures in
    let firsts = c.in_ok-first_productions.ensures in
    record {
      all = all;
      index = subst (λ rs. IsIndex rs c.in_ok-first_productions.field-0.items) (sym all) (subst (IsIndex (rules_of g)) (sym firsts) (is_index g));
    }
