use Rattle.std.proofs.Common.{◌∙◌}
use Rattle.lp_notes.proofs.Parsed.{number_parsed}
use Rattle.lp_notes.proofs.place.printed_number.Goals as goal

pub returns : goal.returns
returns c = c.ok.ensures.value ∙ number_parsed c.args.text.now c.parse.result c.parse.ensures.value.0
