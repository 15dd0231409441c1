-- The form so far, and that of what is left, which is text.
use Rattle.std.proofs.Common.{◌≡◌, ◌++◌}
use Rattle.std.specs.Prelude.{string_bytes, codes, length}
use denote.Shadow.{shadow}
use denote.Text.{Utf8}
use Rattle.lp_maker.specs.Patterns.{form_within}
use Rattle.lp_maker.proofs.patterns.form_of.Given as goal

abbrev pub invariant-loop-left : goal.invariant-loop-left
invariant-loop-left l = record {
  form : string_bytes l.form ++ form_within l.left (l.prefix ++ codes "tok") l.rest ≡ form_within (length l.pattern) (l.prefix ++ codes "tok") l.pattern;
  text : shadow (Utf8 l.rest);
}

abbrev pub decreases-loop-left : goal.decreases-loop-left
decreases-loop-left l = l.left
