use Rattle.std.proofs.lemmas.Result.{IfOk-weaker}
use Rattle.lp_program.proofs.Picking.{line_answered}
use Rattle.lp_program.proofs.read.growing.line_fits.Goals as goal

pub returns-in-Some : goal.returns-in-Some
returns-in-Some c =
    let line = c.in-Some.ensures in
    IfOk-weaker c.read_line.result _ _ (λ b r. line_answered _ _ _ _ _ _ c.in-Some.line.now b line.0 line.1 r) c.read_line.ensures.exact
