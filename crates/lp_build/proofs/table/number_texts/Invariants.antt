-- The texts so far.
use Rattle.std.proofs.Common.{◌≡◌, decimal, map, take}
use Rattle.lp_build.proofs.table.number_texts.Given as goal

abbrev pub invariant-loop-number : goal.invariant-loop-number
invariant-loop-number l = l.texts.items ≡ map decimal (take l.number-index l.numbers)
