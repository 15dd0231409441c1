use Rattle.std.proofs.Common.{refl}
use Rattle.lp_reading.proofs.Betweens.{part_given}
use Rattle.lp_reading.proofs.report.text_between.Goals as goal

pub returns : goal.returns
returns c = part_given c.args.text.now c.args.lo c.args.hi c.get.result _ c.unwrap_or.result c.utf8.text c.unwrap_or.utf8 c.get.ensures.cases c.unwrap_or.ensures refl
