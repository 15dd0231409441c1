-- how deep a pattern may nest, and how far its parts are from the next pattern
use Rattle.std.proofs.Common.{map, ◌*◌, ◌+◌}
use Rattle.lp_reading.specs.Patterns.{linked_pattern, part_tree, pattern_within}
use Rattle.lp_types.proofs.Lists.{ChainSoFar}
use Rattle.lp_types.specs.Left.{left}
use Rattle.lp_reading.proofs.read_pattern.+pattern_reading.Given as goal

abbrev pub decreases-pattern : goal.decreases-pattern
decreases-pattern l = 10 * l.depth

abbrev pub decreases-linked_pattern : goal.decreases-linked_pattern
decreases-linked_pattern l = 10 * l.inner + 1

abbrev pub decreases-linked_patterns : goal.decreases-linked_patterns
decreases-linked_patterns l = 10 * l.inner + 2

abbrev pub decreases-group : goal.decreases-group
decreases-group l = 10 * l.inner + 3

abbrev pub decreases-patterns : goal.decreases-patterns
decreases-patterns l = 10 * l.inner + 4

abbrev pub decreases-arguments : goal.decreases-arguments
decreases-arguments l = 10 * l.inner + 5

abbrev pub decreases-path_pattern : goal.decreases-path_pattern
decreases-path_pattern l = 10 * l.inner + 6

abbrev pub decreases-char_or_path : goal.decreases-char_or_path
decreases-char_or_path l = 10 * l.inner + 7

abbrev pub decreases-literal_or_path : goal.decreases-literal_or_path
decreases-literal_or_path l = 10 * l.inner + 8

abbrev pub decreases-shallow_pattern : goal.decreases-shallow_pattern
decreases-shallow_pattern l = 10 * l.inner + 9

abbrev pub invariant-linked_patterns-loop-turn : goal.invariant-linked_patterns-loop-turn
invariant-linked_patterns-loop-turn l = ChainSoFar (λ found. found) (linked_pattern (pattern_within l.fn.inner)) (left l.fn.reader) (map part_tree l.parts.items) l.turn-end l.turn (left l.reader)
