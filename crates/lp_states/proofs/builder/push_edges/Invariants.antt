use Rattle.std.proofs.Common.{◌≡◌, ◌++◌, map}
use Rattle.lp_states.specs.Building.{edge_from}
use Rattle.lp_states.proofs.builder.push_edges.Given as goal

abbrev pub invariant-loop-over : goal.invariant-loop-over
invariant-loop-over l =
    l.edges.items ++ map (edge_from l.from) l.over-iterator ≡ l.initial.edges.items ++ map (edge_from l.from) l.fn.moved.entries
