-- The arms so far.
use Rattle.std.proofs.Common.{◌≡◌, map, take}
use Rattle.lp_build.specs.Tables.{goto_row}
use Rattle.lp_table.specs.TableLines.{arm_row}
use Rattle.lp_table.proofs.tables.printed_arms.Given as goal

abbrev pub invariant-loop-arm : goal.invariant-loop-arm
invariant-loop-arm l = map goto_row l.printed.items ≡ map arm_row (take l.arm-index l.arms)
