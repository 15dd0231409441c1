use Rattle.std.proofs.Common.{◌∙◌}
use Rattle.lp_maker.proofs.Parsed.{number_parsed}
use Rattle.lp_maker.proofs.texts.number.Goals as goal

pub returns : goal.returns
returns c = c.ok.ensures.value ∙ number_parsed c.args.text.now c.parse.result c.parse.ensures.value.0
