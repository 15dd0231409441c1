use Rattle.lp_types.proofs.Lists.{SoFar}
use Rattle.lp_types.specs.Left.{left}
use Rattle.lp_types.specs.Reading.{taken}
use Rattle.lp_types.specs.declared.texts.Kind.TheVariants as kind
use Rattle.lp_reading.proofs.read_head.attributes.Given as goal

-- what was read so far
abbrev pub invariant-loop-turn : goal.invariant-loop-turn
invariant-loop-turn l = SoFar (taken kind.Attribute) (left l.fn.reader) l.list.items l.turn-end l.turn (left l.reader)
