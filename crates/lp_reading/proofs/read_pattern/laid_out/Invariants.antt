use Rattle.std.proofs.Common.{map, ◌≡◌}
use Rattle.lp_reading.specs.LayoutView.{layout_of}
use Rattle.lp_reading.specs.Patterns.{layout, part_tree}
use Rattle.lp_reading.proofs.read_pattern.laid_out.Given as goal

-- what was laid out so far
abbrev pub invariant-loop-part : goal.invariant-loop-part
invariant-loop-part l = layout_of l.made ≡ layout (map part_tree l.yielded)
