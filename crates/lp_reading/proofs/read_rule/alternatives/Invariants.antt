use Rattle.lp_reading.specs.Symbols.{alternative}
use Rattle.lp_tok.specs.declared.tok.Tok.TheVariants.{RightBrace}
use Rattle.lp_types.proofs.Lists.{SoFar}
use Rattle.lp_types.specs.Left.{left}
use Rattle.lp_types.specs.Reading.{listed}
use Rattle.lp_reading.proofs.read_rule.alternatives.Given as goal

-- what was read so far
abbrev pub invariant-loop-turn : goal.invariant-loop-turn
invariant-loop-turn l = SoFar (listed RightBrace alternative) (left l.fn.reader) l.list.items l.turn-end l.turn (left l.reader)
