-- The digits so far, and those that follow.
use Rattle.std.proofs.Common.{◌≡◌, ◌+◌, ◌-◌, ◌<◌, drop, get_or}
use Rattle.lp_maker.specs.Patterns.{digit_count}
use Rattle.lp_maker.proofs.patterns.digit_count.Given as goal

abbrev pub invariant-loop-i : goal.invariant-loop-i
invariant-loop-i l = record {
  count : l.i + digit_count (drop l.i l.text) ≡ digit_count l.text;
  digit : 0 < l.i → get_or l.text (l.i - 1) 0 < 128;
}
