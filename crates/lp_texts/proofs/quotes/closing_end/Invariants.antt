use Rattle.std.proofs.Common.{◌≡◌, drop}
use Rattle.lp_tok.specs.Signs.{apostrophe}
use Rattle.lp_tok.specs.Scans.{from_char}
use Rattle.lp_texts.proofs.quotes.closing_end.Given as goal

abbrev pub invariant-loop-i : goal.invariant-loop-i
invariant-loop-i l = from_char apostrophe (drop l.i l.text) ≡ from_char apostrophe (drop l.from l.text)
