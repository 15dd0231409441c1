-- The calls so far, and those to come.
use Rattle.std.proofs.Common.{◌≡◌, ◌++◌, drop, vec_len}
use Rattle.std.specs.List.{flat_map}
use Rattle.lp_build.specs.Actions.{call_lines}
use Rattle.lp_actions.specs.Inlines.{calls_from}
use Rattle.lp_actions.proofs.calls.calls.Given as goal

abbrev pub invariant-loop-symbol : goal.invariant-loop-symbol
invariant-loop-symbol l =
    flat_map call_lines l.calls.items ++ calls_from l.grammar (vec_len l.calls) l.before (drop l.symbol-index l.symbols)
    ≡ calls_from l.grammar 0 0 l.symbols
