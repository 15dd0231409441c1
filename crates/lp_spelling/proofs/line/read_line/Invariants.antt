-- The parts so far spell what is taken off the line, and the others read the rest as all parts read the line.
use Rattle.std.proofs.Common.{map, take, drop}
use Rattle.std.specs.Str.{IsUtf8}
use Rattle.lp_form.specs.Templates.{piece}
use Rattle.lp_spelling.specs.Lines.{TakesParts}
use Rattle.lp_spelling.proofs.Reading.{Reading}
use Rattle.lp_spelling.proofs.line.read_line.Given as goal

abbrev pub invariant-loop-i : goal.invariant-loop-i
invariant-loop-i l = record {
  text : IsUtf8 l.rest;
  spelled : TakesParts l.scope.prefix.now (map piece (take l.i l.parts)) l.initial.known.items l.known.items l.line l.rest;
  reads : Reading l.scope.prefix.now l.scope.kinds.now (map piece l.parts) (map piece (drop l.i l.parts)) l.initial.known.items l.known.items l.line l.rest;
}
