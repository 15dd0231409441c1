use Rattle.lp_reading.specs.Heads.{next_use}
use Rattle.lp_types.proofs.Lists.{SoFar}
use Rattle.lp_types.specs.Left.{left}
use Rattle.lp_reading.proofs.read_head.uses.Given as goal

-- what was read so far
abbrev pub invariant-loop-turn : goal.invariant-loop-turn
invariant-loop-turn l = SoFar next_use (left l.fn.reader) l.list.items l.turn-end l.turn (left l.reader)
