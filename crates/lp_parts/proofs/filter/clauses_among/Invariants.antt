-- Those of the clauses so far.
use Rattle.std.proofs.Common.{◌≡◌, filter, map, take}
use Rattle.std.specs.Map.Iter.{deref}
use Rattle.lp_parts.specs.Filter.{speaks_of}
use Rattle.lp_parts.proofs.filter.clauses_among.Given as goal

abbrev pub invariant-loop-clause : goal.invariant-loop-clause
invariant-loop-clause l =
    map deref l.kept.items ≡ filter (speaks_of l.declared l.free) (take l.clause-index l.clauses)
