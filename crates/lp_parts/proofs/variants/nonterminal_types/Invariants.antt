-- The types so far, and those to come.
use Rattle.std.proofs.Common.{◌≡◌, ◌++◌, map}
use Rattle.std.specs.Map.Iter.{deref}
use Rattle.lp_parts.specs.Variants.{nonterminal_type, nonterminal_types}
use Rattle.lp_parts.proofs.variants.nonterminal_types.Given as goal

abbrev pub invariant-loop-nonterminal : goal.invariant-loop-nonterminal
invariant-loop-nonterminal l =
    map deref l.types.items ++ map (nonterminal_type l.grammar) l.nonterminal-iterator ≡ nonterminal_types l.grammar
