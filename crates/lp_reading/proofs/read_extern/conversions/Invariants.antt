use Rattle.std.proofs.Common.{map}
use Rattle.lp_reading.specs.Externs.{conversion, terminal_tree}
use Rattle.lp_tok.specs.declared.tok.Tok.TheVariants.{RightBrace}
use Rattle.lp_types.proofs.Lists.{SoFar}
use Rattle.lp_types.specs.Left.{left}
use Rattle.lp_types.specs.Reading.{listed}
use Rattle.lp_reading.proofs.read_extern.conversions.Given as goal

-- what was read so far
abbrev pub invariant-loop-turn : goal.invariant-loop-turn
invariant-loop-turn l = SoFar (listed RightBrace conversion) (left l.fn.reader) (map terminal_tree l.list.items) l.turn-end l.turn (left l.reader)
