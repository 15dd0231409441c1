use Rattle.std.proofs.Common.{arith, ◌≤◌, ℕ}
use Rattle.std.proofs.lemmas.List.{take-replicate}
use Rattle.std.proofs.lemmas.Result.{err_from_is_err_and}
use Rattle.lp_write.proofs.Sinking.{blanks-took, blanks-broke}
use Rattle.lp_write.proofs.sinks.write_blanks.Goals as goal

pub loop-left-preserved : goal.loop-left-preserved
loop-left-preserved g c =
    let some : c.min-n.result ≤ 64 = omega arith in
    let fits : c.min-n.result ≤ c.loop-left.left = omega arith in
    let left : c.loop-left.left ≤ c.args.count = omega arith in (
      omega arith,
      blanks-took _ _ _ c.args.count c.loop-left.left c.min-n.result left fits c.loop-left.invariant.1
          (rw (take-replicate {X = ℕ} c.min-n.result 64 32 some) at c.in_ok-write_all.ensures.whole),
    )

pub returns-in_err-write_all-clause-broke : goal.returns-in_err-write_all-clause-broke
returns-in_err-write_all-clause-broke g c =
    let some : c.min-n.result ≤ 64 = omega arith in
    let fits : c.min-n.result ≤ c.loop-left.left = omega arith in
    let left : c.loop-left.left ≤ c.args.count = omega arith in
    let p = err_from_is_err_and c.from_residual.result c.from_residual.ensures.1 in
    rw p.1
    (blanks-broke _ _ _ c.args.count c.loop-left.left c.min-n.result left fits c.loop-left.invariant.1
    (rw (take-replicate {X = ℕ} c.min-n.result 64 32 some) at c.in_err-write_all.ensures.broke))
