use Rattle.lp_tok.specs.declared.tok.Tok.TheVariants.{GreaterThan}
use Rattle.lp_types.specs.Left.{left}
use Rattle.lp_types.specs.Names.{type_parameter}
use Rattle.lp_types.specs.Reading.{listed}
use Rattle.lp_types.proofs.Lists.{SoFar}
use Rattle.lp_types.proofs.reader.Reader.type_parameters.Given as goal

-- the parameters so far
abbrev pub invariant-loop-turn : goal.invariant-loop-turn
invariant-loop-turn l = SoFar (listed GreaterThan type_parameter) (left l.fn.self) l.parameters.items l.turn-end l.turn (left l.self)
