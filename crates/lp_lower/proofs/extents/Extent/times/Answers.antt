use Rattle.lp_lower.proofs.Counting.{times_of}
use Rattle.lp_lower.proofs.extents.Extent.times.Goals as goal

pub returns : goal.returns
returns c = λ a b p q. times_of a b _ _ _ c.saturating_mul-left.result c.saturating_mul-right.result p q c.saturating_mul.ensures c.saturating_mul-left.ensures c.saturating_mul-right.ensures c.saturating_add.ensures
