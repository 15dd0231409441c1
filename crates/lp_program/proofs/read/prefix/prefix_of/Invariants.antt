-- What is left shows what the text shows.
use Rattle.std.proofs.Common.{◌≡◌}
use Rattle.lp_spelling.specs.Cursors.{left}
use Rattle.lp_program.proofs.Prefixes.{ShowsSame}
use Rattle.lp_program.proofs.read.prefix.prefix_of.Given as goal

abbrev pub invariant-loop-i : goal.invariant-loop-i
invariant-loop-i l = record {
  same : l.cursor.text.now ≡ l.text;
  shows : ShowsSame l.text (left l.cursor) l._i;
}
