use Rattle.std.proofs.Common.{◌≡◌, true, take}
use Rattle.std.specs.List.{list_all}
use Rattle.lp_valid.specs.Members.{holds}
use Rattle.lp_valid.specs.SymbolRules.{knows_by}
use Rattle.lp_valid.proofs.declared.knows_all.Given as goal

abbrev pub invariant-loop-symbol : goal.invariant-loop-symbol
invariant-loop-symbol l = list_all (knows_by l.grammar (holds l.terminals)) (take l.symbol-index l.symbols) ≡ true
