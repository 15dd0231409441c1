use Rattle.std.proofs.Common.{[], refl}
use Rattle.lp_lower.specs.Extents.{extent_of}
use Rattle.lp_lower.proofs.extents.too_many.Goals as goal

pub loop-rule-init : goal.loop-rule-init
unfolding extent_of
loop-rule-init c = ([], refl, refl)
