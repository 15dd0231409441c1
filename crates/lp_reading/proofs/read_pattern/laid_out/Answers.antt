use Rattle.lp_reading.proofs.Layouts.{laid_one_more}
use Rattle.lp_reading.proofs.read_pattern.laid_out.Goals as goal

pub loop-part-preserved : goal.loop-part-preserved
loop-part-preserved c = laid_one_more c.loop-part.yielded c.in-Some.part _ _ c.loop-part.invariant c.in_ok-lay.ensures
