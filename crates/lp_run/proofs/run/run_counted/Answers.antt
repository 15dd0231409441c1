use Rattle.std.proofs.Common.{◌≡◌, length, arith, subst}
use Rattle.std.specs.Prelude.{All}
use Rattle.lp_run.specs.RunTold.{IsCounted, result_finish}
use Rattle.lp_run.proofs.Answering.{told_run, told_count}
use Rattle.lp_run.proofs.run.run_counted.Goals as goal

pub returns-then-code-params : goal.returns-then-code-params
returns-then-code-params c = λ program o enters.
    told_count c.args.items.now c.args.params.now c.args.failing.now c.args.budget program o c.args.code.now enters
    (λ (same : c.args.code.now.params ≡ length c.args.params.now). omega (arith, c.if-code-params.true))

pub returns : goal.returns
returns c = λ program o enters.
    let same : c.args.code.now.params ≡ length c.args.params.now = omega (arith, c.if-code-params.false) in
    let counts : All IsCounted c.args.code.now.code.tables.items = subst (All IsCounted) c.as_slice.ensures.value c.see_counted.ensures in
    told_run c.args.items.now c.args.params.now c.args.failing.now c.args.budget program o c.args.code.now (result_finish c.run_code.result) enters counts same c.run_code.ensures
