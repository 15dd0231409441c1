use Rattle.std.proofs.Common.{◌≡◌, ◌++◌, drop}
use Rattle.lp_machine.specs.GrammarTables.{params_among}
use Rattle.lp_machine.proofs.grammar.params_of.Given as goal

-- the values so far, and those to come
abbrev pub invariant-loop-parameter : goal.invariant-loop-parameter
invariant-loop-parameter l =
    l.params.items ++ params_among l.names l.values (drop l.parameter-index l.names) ≡ params_among l.names l.values l.names
