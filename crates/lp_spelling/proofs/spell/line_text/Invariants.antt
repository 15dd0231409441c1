-- What is written, and what the parts that are left spell.
use Rattle.std.proofs.Common.{◌≡◌, ◌++◌, map, drop, replicate, string_bytes}
use Rattle.lp_form.specs.Templates.{piece}
use Rattle.lp_spelling.specs.Lines.{line_of}
use Rattle.lp_spelling.proofs.spell.line_text.Given as goal

abbrev pub invariant-loop-part : goal.invariant-loop-part
invariant-loop-part l =
    string_bytes l.text ++ line_of l.prefix l.holes (map piece (drop l.part-index l.parts)) ≡ replicate l.blanks 32 ++ line_of l.prefix l.holes (map piece l.parts)
