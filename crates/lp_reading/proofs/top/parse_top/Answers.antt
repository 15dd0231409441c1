use Rattle.std.proofs.Common.{ap, sym}
use Rattle.lp_types.specs.Left.{left}
use Rattle.lp_types.proofs.Steps.{answers_as}
use Rattle.lp_reading.specs.Tops.{top_by}
use Rattle.lp_reading.proofs.Wholes.{read_as, not_read}
use Rattle.lp_reading.proofs.top.parse_top.Goals as goal

pub returns-in_err-tokens : goal.returns-in_err-tokens
returns-in_err-tokens c = not_read _ _ _ _ _ c.from_residual.ensures.1

pub returns : goal.returns
returns c =
    let answers = answers_as _ _ _ _ _ c.read_top.ensures (ap (λ want. top_by want (left c.new-reader.result)) (sym c.want_of-want.ensures)) in
    read_as _ _ _ _ _ _ _ _ c.in_ok-tokens.ensures c.new-reader.ensures answers
