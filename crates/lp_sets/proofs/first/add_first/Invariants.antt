use Rattle.std.proofs.Common.{◌≡◌, bit_or, drop}
use Rattle.lp_sets.specs.FirstTables.{vanishes, first_terminals}
use Rattle.lp_sets.proofs.first.add_first.Given as goal

-- what is left of the word decides
abbrev pub invariant-loop-symbol : goal.invariant-loop-symbol
invariant-loop-symbol l =
    (bit_or l.set (first_terminals l.empty l.sets (drop l.symbol-index l.symbols)) ≡ bit_or l.initial.set (first_terminals l.empty l.sets l.symbols)) × (vanishes l.empty (drop l.symbol-index l.symbols) ≡ vanishes l.empty l.symbols)
