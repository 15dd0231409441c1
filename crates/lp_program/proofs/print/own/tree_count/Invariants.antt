use Rattle.std.proofs.Common.{◌≡◌, ◌-◌, ◌+◌, ◌≤◌, length, drop}
use Rattle.lp_program.specs.Trees.{forest, tree_count}
use Rattle.lp_program.proofs.print.own.tree_count.Given as goal

abbrev pub invariant-loop-at : goal.invariant-loop-at
invariant-loop-at l = record {
  within : l.at ≤ length l.entries;
  fits : l.count ≤ l.at;
  counted : l.count + tree_count (forest (drop l.at l.entries)) ≡ tree_count (forest l.entries);
}

abbrev pub decreases-loop-at : goal.decreases-loop-at
decreases-loop-at l = length l.entries - l.at
