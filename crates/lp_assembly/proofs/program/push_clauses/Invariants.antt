-- What stood there, and the clauses so far.
use Rattle.std.proofs.Common.{◌≡◌, ◌++◌, codes, string_bytes, take}
use Rattle.std.specs.List.{flat_map}
use Rattle.lp_repr.specs.ShownTypes.{clause_text}
use Rattle.lp_assembly.proofs.program.push_clauses.Given as goal

abbrev pub invariant-loop-clause : goal.invariant-loop-clause
invariant-loop-clause l =
    string_bytes l.text ≡ string_bytes l.initial.text ++ flat_map (λ c. codes "," ++ clause_text c) (take l.clause-index l.clauses)
