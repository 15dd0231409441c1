-- The numbers so far, and those to come.
use Rattle.std.proofs.Common.{◌≡◌, ◌++◌, ◌-◌}
use Rattle.std.specs.List.{range_with_len}
use Rattle.lp_ascent.proofs.calls.numbers_between.Given as goal

abbrev pub invariant-loop-number : goal.invariant-loop-number
invariant-loop-number l =
    l.numbers.items ++ range_with_len l.number (l.end - l.number) ≡ range_with_len l.first (l.end - l.first)
