use Rattle.std.proofs.Common.{All, ◌<◌, subst, sym, ◌∙◌}
use Rattle.lp_assembly.proofs.Shifts.{shifts_fit_all}
use Rattle.lp_assembly.proofs.fits.entries_fit.Goals as goal

pub returns-then-shifts_fit : goal.returns-then-shifts_fit
returns-then-shifts_fit c = λ fits. record {
  shifts = shifts_fit_all c.args.state.now.shifts (sym c.shifts_fit.ensures ∙ c.if-shifts_fit.true);
  reductions = subst (All (λ r. r.1 < 2147483647)) c.as_slice.ensures (c.reductions_fit.ensures fits);
}
