-- how deep a type may nest, and how far its parts are from the next type
use Rattle.std.proofs.Common.{◌+◌, ◌*◌, map}
use Rattle.lp_repr.specs.TypeTrees.{type_tree}
use Rattle.lp_types.specs.Left.{left}
use Rattle.lp_types.specs.Reading.{listed}
use Rattle.lp_types.specs.Types.{argument_by, type_within}
use Rattle.lp_types.proofs.Lists.{SoFar}
use Rattle.lp_types.proofs.reader.Reader.+type_reading.Given as goal

abbrev pub decreases-ty : goal.decreases-ty
decreases-ty l = 7 * l.depth

abbrev pub decreases-argument : goal.decreases-argument
decreases-argument l = 7 * l.inner + 1

abbrev pub decreases-next_type : goal.decreases-next_type
decreases-next_type l = 7 * l.inner + 2

abbrev pub decreases-types : goal.decreases-types
decreases-types l = 7 * l.inner + 3

abbrev pub decreases-arguments : goal.decreases-arguments
decreases-arguments l = 7 * l.inner + 4

abbrev pub decreases-named_type : goal.decreases-named_type
decreases-named_type l = 7 * l.inner + 5

abbrev pub decreases-tuple : goal.decreases-tuple
decreases-tuple l = 7 * l.inner + 4

abbrev pub decreases-slice : goal.decreases-slice
decreases-slice l = 7 * l.inner + 1

abbrev pub decreases-reference : goal.decreases-reference
decreases-reference l = 7 * l.inner + 1

abbrev pub decreases-shallow_type : goal.decreases-shallow_type
decreases-shallow_type l = 7 * l.inner + 6

abbrev pub invariant-types-loop-turn : goal.invariant-types-loop-turn
invariant-types-loop-turn l = SoFar (listed l.fn.closer (argument_by (type_within l.fn.inner) l.fn.lifetimes)) (left l.fn.self) (map type_tree l.types.items) l.turn-end l.turn (left l.self)
