-- The arms so far.
use Rattle.std.proofs.Common.{◌≡◌, map, take}
use Rattle.lp_ascent.specs.NamedGotos.{arm_of, named_as}
use Rattle.lp_ascent.proofs.gotos.goto_arms.Given as goal

abbrev pub invariant-loop-goto : goal.invariant-loop-goto
invariant-loop-goto l = l.arms.items ≡ map (arm_of l.symbol) (map named_as (take l.goto-index l.gotos))
