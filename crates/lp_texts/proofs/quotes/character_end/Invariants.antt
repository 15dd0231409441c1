use Rattle.std.proofs.Common.{◌≡◌, drop}
use Rattle.lp_texts.specs.Quotes.{after_character}
use Rattle.lp_texts.proofs.quotes.character_end.Given as goal

abbrev pub invariant-loop-i : goal.invariant-loop-i
invariant-loop-i l = after_character (drop l.i l.text) ≡ after_character (drop l.from l.text)
