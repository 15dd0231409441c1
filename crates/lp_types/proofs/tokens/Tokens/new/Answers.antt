use Rattle.lp_types.proofs.Spelling.{only_spelling}
use Rattle.lp_types.proofs.tokens.Tokens.new.Goals as goal

pub returns : goal.returns
returns c = only_spelling _ _ _ _ c.in_ok-plain.ensures (c.in_ok-tokens.ensures _)
