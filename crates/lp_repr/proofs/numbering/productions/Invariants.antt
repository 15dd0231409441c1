use Rattle.std.proofs.Common.{◌≡◌, ◌++◌, map}
use Rattle.std.specs.Map.Iter.{deref}
use Rattle.std.specs.List.{flat_map}
use Rattle.lp_repr.specs.Numbering.{productions_of}
use Rattle.lp_repr.proofs.numbering.productions.Given as goal

abbrev pub invariant-loop-data : goal.invariant-loop-data
invariant-loop-data l =
    map deref l.all.items ++ flat_map (λ d. d.productions) l.data-iterator ≡ productions_of l.grammar
