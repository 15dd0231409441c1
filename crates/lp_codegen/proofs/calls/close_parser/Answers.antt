use Rattle.std.proofs.Common.{[], ◌∷◌, codes}
use Rattle.std.proofs.lemmas.Result.{err_from_is_err_and}
use Rattle.lp_write.proofs.Writing.{faults-more, writes-then}
use Rattle.lp_write.specs.Lines.Line.{line}
use Rattle.lp_write.specs.Writes.{ending}
use Rattle.lp_codegen.proofs.calls.close_parser.Goals as goal

pub returns-in_err-line : goal.returns-in_err-line
returns-in_err-line g c =
    let p = err_from_is_err_and c.from_residual.result c.from_residual.ensures.1 in
    rw p.1 (faults-more _ _ (line (codes "}") ∷ []) (line (codes "}") ∷ []) c.in_err-line.ensures)

pub returns : goal.returns
returns g c =
    writes-then (ending c.line-2.result) _ _ _ (line (codes "}") ∷ []) (line (codes "}") ∷ []) c.in_ok-line.ensures c.line-2.ensures
