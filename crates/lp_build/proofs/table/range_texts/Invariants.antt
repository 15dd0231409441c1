-- The texts so far.
use Rattle.std.proofs.Common.{◌≡◌, map, take}
use Rattle.lp_build.specs.Tables.{range_text}
use Rattle.lp_build.proofs.table.range_texts.Given as goal

abbrev pub invariant-loop-range : goal.invariant-loop-range
invariant-loop-range l = l.texts.items ≡ map range_text (take l.range-index l.ranges)
