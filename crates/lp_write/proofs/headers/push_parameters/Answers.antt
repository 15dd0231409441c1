use Rattle.std.proofs.Common.{[], ◌∷◌, ◌++◌, string_bytes}
use Rattle.lp_write.proofs.Texts.{zip-more, behind-more}
use Rattle.lp_write.proofs.headers.push_parameters.Goals as goal

pub loop-parameter-preserved : goal.loop-parameter-preserved
loop-parameter-preserved g c =
    let text = string_bytes c.in_ok-to_parameter_string.field-0 in
    let so_far = c.loop-parameter.invariant in (
      so_far.0 ++ text ∷ [],
      zip-more g.P.ParameterDisplay.IsParameterText c.args.parameters.now so_far.0 c.loop-parameter.parameter-index
          c.parameter-item.result text c.parameter-item.is c.loop-parameter-test.true so_far.1 c.in_ok-to_parameter_string.ensures,
      behind-more _ _ _ so_far.0 text so_far.2 c.in_ok-push.ensures.items,
    )
