-- The ranges so far.
use Rattle.std.proofs.Common.{◌≡◌, map, take}
use Rattle.lp_build.specs.Tables.{range_text}
use Rattle.lp_table.specs.TableLines.{range_shown}
use Rattle.lp_table.proofs.tables.printed_ranges.Given as goal

abbrev pub invariant-loop-range : goal.invariant-loop-range
invariant-loop-range l = map range_text l.printed.items ≡ map range_shown (take l.range-index l.ranges)
