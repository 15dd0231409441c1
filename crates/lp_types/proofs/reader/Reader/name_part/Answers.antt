use Rattle.std.proofs.Common.{refl, ap, sym}
use Rattle.lp_types.specs.Reading.{Read}
use Rattle.lp_types.specs.Left.{left}
use Rattle.lp_types.specs.Names.{name_part}
use Rattle.lp_types.proofs.Steps.{read_then, part_fails, no_memory}
use Rattle.lp_types.proofs.reader.Reader.name_part.Goals as goal

pub returns-in_err-id : goal.returns-in_err-id
unfolding name_part
returns-in_err-id c = part_fails _ _ _ _ _ _ _ c.in_err-id.ensures c.from_residual.ensures.1 refl

pub returns-in_err-name : goal.returns-in_err-name
returns-in_err-name c = no_memory _ _ _ _ c.from_residual-in_err-name.ensures.1

pub returns : goal.returns
unfolding name_part
returns c =
    let more = c.passes-more in
    read_then _ _ _ _ _ c.in_ok-id.ensures (read_then _ _ _ _ _ more.ensures (ap (λ name. Read (name, more.result) (left more.new.self)) (sym c.in_ok-name.ensures)))
