-- The spans so far, and those to come.
use Rattle.std.proofs.Common.{◌≡◌, ◌++◌, drop, map, vec_len}
use Rattle.lp_build.specs.Actions.{span_row}
use Rattle.lp_actions.specs.Inlines.{spans_from, total_width}
use Rattle.lp_actions.proofs.spans.spans.Given as goal

abbrev pub invariant-loop-symbol : goal.invariant-loop-symbol
invariant-loop-symbol l =
    map span_row l.spans.items ++ spans_from l.prefix l.total (vec_len l.spans) l.before (drop l.symbol-index l.symbols)
    ≡ spans_from l.prefix (total_width l.symbols) 0 0 l.symbols
