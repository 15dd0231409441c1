-- The parts so far and those that are left make the whole.
use Rattle.std.proofs.Common.{◌≡◌, ◌≤◌, ◌+◌, ◌-◌, ◌^◌, drop, map}
use Rattle.std.specs.Prelude.{min}
use Rattle.std.specs.List.{sum_by}
use Rattle.lp_tree.specs.ProgramTree.{item}
use Rattle.lp_view.specs.Weights.{weight, weight_of}
use Rattle.lp_view.proofs.count.node_count.Given as goal

abbrev pub invariant-loop-entry : goal.invariant-loop-entry
invariant-loop-entry l = record {
  whole : min (2 ^ 64 - 1) (l.count + sum_by weight_of (map item (drop l.entry-index l.entry-items))) ≡ min (2 ^ 64 - 1) (weight l.program);
  fits : l.count ≤ 2 ^ 64 - 1;
}
