use Rattle.std.proofs.Common.{map}
use Rattle.lp_repr.specs.TypeTrees.{bound_parameter_tree}
use Rattle.lp_tok.specs.declared.tok.Tok.TheVariants.{GreaterThan}
use Rattle.lp_types.specs.Bounds.{bound_argument}
use Rattle.lp_types.specs.Left.{left}
use Rattle.lp_types.specs.Reading.{listed}
use Rattle.lp_types.proofs.Lists.{SoFar}
use Rattle.lp_types.proofs.reader.Reader.bound_arguments.Given as goal

-- the arguments so far
abbrev pub invariant-loop-turn : goal.invariant-loop-turn
invariant-loop-turn l = SoFar (listed GreaterThan bound_argument) (left l.fn.self) (map bound_parameter_tree l.arguments.items) l.turn-end l.turn (left l.self)
