use Rattle.lp_maker.proofs.Cuts.{cut_found}
use Rattle.lp_maker.proofs.texts.cut_at.Goals as goal

pub returns : goal.returns
returns c = cut_found c.args.separator.now c.args.text.now c.split_once.result c.split_once.ensures.cases
