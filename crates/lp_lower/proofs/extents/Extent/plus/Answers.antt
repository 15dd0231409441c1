use Rattle.lp_lower.proofs.Counting.{plus_of}
use Rattle.lp_lower.proofs.extents.Extent.plus.Goals as goal

pub returns : goal.returns
returns c = λ a b p q. plus_of a b _ _ _ p q c.saturating_add.ensures c.saturating_add-2.ensures
