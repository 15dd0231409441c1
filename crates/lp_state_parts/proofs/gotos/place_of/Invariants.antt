use Rattle.lp_state_parts.specs.GotoPlaces.{AddsFrom}
use Rattle.lp_state_parts.proofs.gotos.place_of.Given as goal

abbrev pub invariant-loop-place : goal.invariant-loop-place
invariant-loop-place l = AddsFrom l.arms l.target l.place
