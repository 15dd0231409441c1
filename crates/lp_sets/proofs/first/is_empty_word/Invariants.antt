use Rattle.std.proofs.Common.{◌≡◌, drop}
use Rattle.lp_sets.specs.FirstTables.{vanishes}
use Rattle.lp_sets.proofs.first.is_empty_word.Given as goal

-- what is left of the word decides
abbrev pub invariant-loop-symbol : goal.invariant-loop-symbol
invariant-loop-symbol l = vanishes l.empty (drop l.symbol-index l.symbols) ≡ vanishes l.empty l.symbols
