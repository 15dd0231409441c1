use Rattle.std.proofs.Common.{◌∙◌}
use Rattle.lp_tok.proofs.Readings.{place_is}
use Rattle.lp_tok.proofs.tokenizer.place.Goals as goal

pub returns-clause-value : goal.returns-clause-value
returns-clause-value c = c.saturating_sub.ensures ∙ place_is _ _ c.utf8.text
