use Rattle.std.proofs.Common.{map}
use Rattle.lp_reading.specs.Heads.{parameter, parameter_tree}
use Rattle.lp_tok.specs.declared.tok.Tok.TheVariants.{RightParen}
use Rattle.lp_types.proofs.Lists.{SoFar}
use Rattle.lp_types.specs.Left.{left}
use Rattle.lp_types.specs.Reading.{listed}
use Rattle.lp_reading.proofs.read_head.parameters.Given as goal

-- what was read so far
abbrev pub invariant-loop-turn : goal.invariant-loop-turn
invariant-loop-turn l = SoFar (listed RightParen parameter) (left l.fn.reader) (map parameter_tree l.list.items) l.turn-end l.turn (left l.reader)
