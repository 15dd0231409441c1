-- The holes so far and those that are left make the whole.
use Rattle.std.proofs.Common.{◌≡◌, ◌≤◌, ◌+◌, ◌-◌, ◌^◌, drop}
use Rattle.std.specs.Prelude.{min}
use Rattle.lp_view.specs.Weights.{elements_of}
use Rattle.lp_view.proofs.count.elements_of.Given as goal

abbrev pub invariant-loop-i : goal.invariant-loop-i
invariant-loop-i l = record {
  whole : min (2 ^ 64 - 1) (l.count + elements_of (drop l.i l.kinds) (drop l.i l.holes)) ≡ min (2 ^ 64 - 1) (elements_of l.kinds l.holes);
  fits : l.count ≤ 2 ^ 64 - 1;
}
