use Rattle.std.proofs.Common.{arith, below_more}
use Rattle.lp_fitting.proofs.Parts.{all_fill}
use Rattle.lp_fitting.proofs.fills.holes_fill.Goals as goal

pub loop-k-preserved : goal.loop-k-preserved
loop-k-preserved c = below_more _ _ c.loop-k.invariant (c.in_ok-fits_at.ensures.utf8, c.in_ok-fits_at.ensures.fits.0 c.if-not-branch.false)

pub returns : goal.returns
returns c = all_fill c.args.prefix.now c.args.kinds.now c.args.holes.now c.loop-k.k (omega arith) (omega arith) c.loop-k.invariant
