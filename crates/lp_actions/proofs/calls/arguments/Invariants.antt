-- The arguments so far.
use Rattle.std.proofs.Common.{◌≡◌, map}
use Rattle.std.specs.List.{range_with_len}
use Rattle.lp_actions.specs.Inlines.{argument_behind}
use Rattle.lp_actions.proofs.calls.arguments.Given as goal

abbrev pub invariant-loop-place : goal.invariant-loop-place
invariant-loop-place l = l.pieces.items ≡ map (argument_behind l.prefix l.before) (range_with_len 0 l.place)
