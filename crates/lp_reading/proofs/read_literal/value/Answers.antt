use Rattle.std.proofs.Common.{◌+◌, length, sym, ap, ◌∙◌}
use Rattle.lp_reading.specs.Literals.{value_of, value_or_fault, value_read}
use Rattle.lp_types.specs.Left.{left}
use Rattle.lp_types.proofs.Steps.{no_memory, fails_as}
use Rattle.lp_reading.proofs.Values.{value_means, value_faults}
use Rattle.lp_reading.proofs.read_literal.value.Goals as goal

pub returns-in_err-value-in-Ok : goal.returns-in_err-value-in-Ok
returns-in_err-value-in-Ok c = no_memory _ _ _ _ c.from_residual.ensures.1

pub returns-in_ok-value-in-Ok : goal.returns-in_ok-value-in-Ok
unfolding value_read
returns-in_ok-value-in-Ok c =
    let stands = c.in-Ok.ensures.value in
    value_means _ _ stands.0 _ _ stands.1 (c.in_ok-value-in-Ok.ensures.ok ∙ stands.2)

pub returns-in-Err : goal.returns-in-Err
unfolding value_read
returns-in-Err c =
    let inside = c.args.inside.now in
    let ts = left c.args.reader.now in
    fails_as _ _ _ (value_faults inside c.inside_place-place.result ts c.in-Err.fault _ c.in-Err.ensures.faults c.error_of.ensures) (ap (λ at. value_or_fault (length inside + at) (value_of inside) ts) (sym c.inside_place-place.ensures.place))
