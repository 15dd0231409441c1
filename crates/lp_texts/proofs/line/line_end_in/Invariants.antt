use Rattle.lp_texts.specs.Places.{NoLineEnd}
use Rattle.lp_texts.proofs.line.line_end_in.Given as goal

abbrev pub invariant-loop-i : goal.invariant-loop-i
invariant-loop-i l = NoLineEnd l.text l.from l.i
