-- The last parameter so far, which is text.
use Rattle.std.proofs.Common.{◌≡◌, [], map, drop}
use denote.Shadow.{shadow}
use denote.Text.{Utf8}
use Rattle.lp_program.specs.Parameters.{last_parameter}
use Rattle.lp_program.specs.Trees.{content}
use Rattle.lp_program.proofs.read.reader.Reader.last_parameter.Given as goal

abbrev pub invariant-loop-i : goal.invariant-loop-i
invariant-loop-i l = record {
  told : last_parameter l.last (map content (drop l.i l.self.entries.items)) ≡ last_parameter [] (map content (drop l.at l.self.entries.items));
  text : shadow (Utf8 l.last);
}
