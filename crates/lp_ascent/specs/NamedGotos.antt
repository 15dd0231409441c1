-- Gotos by name, and their arms, as the code has them.
use Rattle.std.specs.Prelude.{ℕ, List}
use Rattle.lp_build.specs.declared.ascent.GotoLoopArm.{GotoLoopArm}
use Rattle.lp_ascent.specs.declared.gotos.NamedGoto.{NamedGoto}

-- a goto without the reference to its name
abbrev pub named_as : NamedGoto → List ℕ × ℕ
named_as goto = (goto.name.now, goto.target)

-- the arm of a goto of the symbol of this number
abbrev pub arm_of : ℕ → List ℕ × ℕ → GotoLoopArm
arm_of symbol goto = record { nonterminal = goto.0; symbol = symbol }
