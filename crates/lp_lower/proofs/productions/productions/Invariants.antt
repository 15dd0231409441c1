use Rattle.std.proofs.Common.{◌≡◌, map}
use Rattle.lp_lower.specs.Productions.{production_of}
use Rattle.lp_lower.proofs.productions.productions.Given as goal

-- those so far
abbrev pub invariant-loop-one : goal.invariant-loop-one
invariant-loop-one l = l.productions ≡ map (production_of l.name) l.yielded
