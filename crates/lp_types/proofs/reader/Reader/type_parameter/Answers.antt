use Rattle.std.proofs.Common.{refl, ap, sym}
use Rattle.lp_repr.specs.declared.parse_tree.TypeParameter.TheVariants.{Lifetime, Id}
use Rattle.lp_types.specs.Reading.{Read}
use Rattle.lp_types.specs.Left.{left}
use Rattle.lp_types.specs.Names.{type_parameter}
use Rattle.lp_types.proofs.Steps.{read_then, part_fails, no_memory}
use Rattle.lp_types.proofs.reader.Reader.type_parameter.Goals as goal

pub returns-in_err-name-in-Some : goal.returns-in_err-name-in-Some
returns-in_err-name-in-Some c = no_memory _ _ _ _ c.from_residual.ensures.1

pub returns-in_ok-name-in-Some : goal.returns-in_ok-name-in-Some
unfolding type_parameter
returns-in_ok-name-in-Some c = read_then _ _ _ _ _ c.in-Some.ensures (ap (λ name. Read (Lifetime name) (left c.takes.new.self)) (sym c.in_ok-name-in-Some.ensures))

pub returns-in_err-id-in-None : goal.returns-in_err-id-in-None
unfolding type_parameter
returns-in_err-id-in-None c = part_fails _ _ _ _ _ _ _ c.in_err-id-in-None.ensures c.from_residual-in_err-id-in-None.ensures.1 (read_then _ _ _ _ _ c.in-None.ensures refl)

pub returns-in_err-name-in-None : goal.returns-in_err-name-in-None
returns-in_err-name-in-None c = no_memory _ _ _ _ c.from_residual-in_err-name-in-None.ensures.1

pub returns-in_ok-name-in-None : goal.returns-in_ok-name-in-None
unfolding type_parameter
returns-in_ok-name-in-None c = read_then _ _ _ _ _ c.in-None.ensures (read_then _ _ _ _ _ c.in_ok-id-in-None.ensures (ap (λ name. Read (Id name) (left c.text.new.self)) (sym c.in_ok-name-in-None.ensures)))
