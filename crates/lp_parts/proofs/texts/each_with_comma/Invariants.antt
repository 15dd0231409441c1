-- What was appended so far.
use Rattle.std.proofs.Common.{◌≡◌, map, string_bytes, take}
use Rattle.lp_parts.specs.Texts.{each_with_comma}
use Rattle.lp_parts.proofs.texts.each_with_comma.Given as goal

abbrev pub invariant-loop-value : goal.invariant-loop-value
invariant-loop-value g l = string_bytes l.list ≡ each_with_comma (map g.T.Shown.text (take l.value-index l.values))
