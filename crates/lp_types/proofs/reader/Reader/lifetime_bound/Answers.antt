use Rattle.std.proofs.Common.{refl, ap, sym}
use Rattle.lp_repr.specs.declared.parse_tree.TypeBound.TheVariants as bound
use Rattle.lp_types.specs.Clauses.{lifetime_bound}
use Rattle.lp_types.specs.Left.{left}
use Rattle.lp_types.specs.Reading.{Read}
use Rattle.lp_types.proofs.Steps.{read_then, part_fails, no_memory}
use Rattle.lp_types.proofs.reader.Reader.lifetime_bound.Goals as goal

pub returns-in_err-lifetime : goal.returns-in_err-lifetime
unfolding lifetime_bound
returns-in_err-lifetime c = part_fails _ _ _ _ _ _ _ c.in_err-lifetime.ensures c.from_residual.ensures.1 refl

pub returns-in_err-name : goal.returns-in_err-name
returns-in_err-name c = no_memory _ _ _ _ c.from_residual-in_err-name.ensures.1

pub returns : goal.returns
unfolding lifetime_bound
returns c = read_then _ _ _ _ _ c.in_ok-lifetime.ensures (ap (λ name. Read (bound.Lifetime name) (left c.text.new.self)) (sym c.in_ok-name.ensures))
