use Rattle.lp_repr.specs.contracts.repr.TypeReprOrd.TheImpl.Laws as law
use Rattle.lp_repr.proofs.type_order.compare_types.Goals as goal

pub returns-clause-total : goal.returns-clause-total
returns-clause-total c = law.total-law

pub returns-clause-ties : goal.returns-clause-ties
returns-clause-ties c = law.matches_eq-law
