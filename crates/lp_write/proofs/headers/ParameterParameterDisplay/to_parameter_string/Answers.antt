use Rattle.std.proofs.Common.{string_bytes}
use Rattle.std.proofs.lemmas.Result.{IfOk-weaker}
use Rattle.lp_write.proofs.headers.ParameterParameterDisplay.to_parameter_string.Goals as goal

pub returns : goal.returns
returns c =
    IfOk-weaker c.parameter_string.result _ _ (λ text e. (string_bytes c.in_ok-ty.ty, c.in_ok-ty.ensures.ok, e)) c.parameter_string.ensures
