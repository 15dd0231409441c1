use Rattle.std.proofs.Common.{◌≡◌, false, drop}
use Rattle.lp_texts.proofs.QuoteSteps.{from_escaped}
use Rattle.lp_texts.proofs.quotes.string_end.Given as goal

abbrev pub invariant-loop-i : goal.invariant-loop-i
invariant-loop-i l = from_escaped l.escaped (drop l.i l.text) ≡ from_escaped false (drop l.from l.text)
