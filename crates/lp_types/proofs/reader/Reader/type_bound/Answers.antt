use Rattle.std.proofs.Common.{refl, ap, sym}
use Rattle.lp_repr.specs.declared.parse_tree.TypeBound.TheVariants as bound
use Rattle.lp_types.specs.Bounds.{type_bound}
use Rattle.lp_types.specs.Left.{left}
use Rattle.lp_types.specs.Reading.{Read}
use Rattle.lp_types.proofs.Steps.{read_then, answers_as, no_memory}
use Rattle.lp_types.proofs.reader.Reader.type_bound.Goals as goal

pub returns-in_err-name-in-Some : goal.returns-in_err-name-in-Some
returns-in_err-name-in-Some c = no_memory _ _ _ _ c.from_residual.ensures.1

pub returns-in_ok-name-in-Some : goal.returns-in_ok-name-in-Some
unfolding type_bound
returns-in_ok-name-in-Some c = read_then _ _ _ _ _ c.in-Some.ensures (ap (λ name. Read (bound.Lifetime name) (left c.takes.new.self)) (sym c.in_ok-name-in-Some.ensures))

pub returns-in-None : goal.returns-in-None
unfolding type_bound
returns-in-None c = answers_as _ _ _ _ _ c.path_bound.ensures (read_then _ _ _ _ _ c.in-None.ensures refl)
